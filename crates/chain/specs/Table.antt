-- The kinds of the columns of a chain's header line and of its block lines, in the order of the UCSC page; Columns.antt has their numbers.
use Rattle.std.specs.Prelude.{List, [], ◌∷◌, false}
use Rattle.kinds.specs.declared.Range.TheVariants.{Coordinate, Size, ChainScore, ChainId}
use Rattle.kinds.specs.declared.Fixed.TheVariants as fixed
use Rattle.kinds.specs.declared.Kind.{Kind}
use Rattle.kinds.specs.declared.Kind.TheVariants.{Name, Number, Stranded, Word}

-- chain, score, tName, tSize, tStrand, tStart, tEnd, qName, qSize, qStrand, qStart, qEnd, id
unfoldable pub chain_columns : List Kind
chain_columns =
    Word fixed.Chain
    ∷ Number ChainScore
    ∷ Name
    ∷ Number Size
    ∷ Word fixed.Plus
    ∷ Number Coordinate
    ∷ Number Coordinate
    ∷ Name
    ∷ Number Size
    ∷ Stranded false
    ∷ Number Coordinate
    ∷ Number Coordinate
    ∷ Number ChainId
    ∷ []

-- size, dt, dq; of the last block line the size alone
unfoldable pub block_columns : List Kind
block_columns = Number Size ∷ Number Coordinate ∷ Number Coordinate ∷ []
