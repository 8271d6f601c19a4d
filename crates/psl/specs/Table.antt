-- PSL's columns, in the order of the UCSC page; Columns.antt has their numbers.
use Rattle.std.specs.Prelude.{false, List, [], ◌∷◌}
use Rattle.kinds.specs.declared.Range.TheVariants.{Coordinate, Size}
use Rattle.kinds.specs.declared.Kind.{Kind}
use Rattle.kinds.specs.declared.Kind.TheVariants.{Name, Number, Count, Items, Stranded}

unfoldable pub psl_columns : List Kind
psl_columns =
    -- matches, misMatches, repMatches, nCount
    Number Coordinate ∷ Number Coordinate ∷ Number Coordinate ∷ Number Coordinate
    -- qNumInsert, qBaseInsert, tNumInsert, tBaseInsert
    ∷ Number Coordinate ∷ Number Coordinate ∷ Number Coordinate ∷ Number Coordinate
    -- strand
    ∷ Stranded false
    -- qName, qSize, qStart, qEnd
    ∷ Name ∷ Number Size ∷ Number Coordinate ∷ Number Coordinate
    -- tName, tSize, tStart, tEnd
    ∷ Name ∷ Number Size ∷ Number Coordinate ∷ Number Coordinate
    -- blockCount, blockSizes, qStarts, tStarts
    ∷ Count ∷ Items Size ∷ Items Coordinate ∷ Items Coordinate ∷ []
