-- BED's columns, in the order of the UCSC page.
use Rattle.std.specs.Prelude.{true, List, [], ◌∷◌}
use Rattle.kinds.specs.declared.Range.TheVariants.{Coordinate, Size, BedScore}
use Rattle.kinds.specs.declared.Kind.{Kind}
use Rattle.kinds.specs.declared.Kind.TheVariants.{Name, Number, Count, Items, Stranded, Colour}

-- chrom, chromStart, chromEnd, name, score, strand, thickStart, thickEnd, itemRgb, blockCount, blockSizes, blockStarts
unfoldable pub bed_columns : List Kind
bed_columns =
    Name
    ∷ Number Coordinate
    ∷ Number Coordinate
    ∷ Name
    ∷ Number BedScore
    ∷ Stranded true
    ∷ Number Coordinate
    ∷ Number Coordinate
    ∷ Colour
    ∷ Count
    ∷ Items Size
    ∷ Items Coordinate
    ∷ []
