-- A test that does not hold stops, by the refusal of a call without a text. Assumes nothing.
use Rattle.text.proofs.StageLaws.{demand_stops}
use Rattle.text.proofs.demand.Goals as goal

pub returns : goal.returns
returns c = search demand_stops
