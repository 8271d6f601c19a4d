use Rattle.binary.proofs.ByteLaws.{word_loaded}
use Rattle.binary.proofs.load_word.Goals as goal

pub returns : goal.returns
returns c = search word_loaded
