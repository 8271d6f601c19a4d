-- The standard text of a PSL record that may be written reads back as that record, with the same names and the same rows. Assumes nothing.
use mathlib.Core.Path.{◌≡◌, refl, ap, ◌∙◌}
use mathlib.Core.List.{List, [], ◌∷◌}
use Prim.Native.Nat.{ℕ, ◌≤◌}
use native.Mathlib.Omega.{arith}
use lib.ListN.{length, take, get_or}
use Rattle.ledger.specs.Limits.{text_limit, largest_position}
use Rattle.text.specs.declared.Class.TheVariants.{Allowed}
use Rattle.text.specs.Scan.{run}
use Rattle.text.specs.Parts.{part_bytes}
use Rattle.text.specs.Pieces.{lines_of, line_of, words_of}
use Rattle.text.specs.Words.{word_at, word_count, bytes_of}
use Rattle.text.proofs.CheckLaws.{fed_allowed, fed_line_lem}
use Rattle.text.proofs.PieceLaws.{Worded, line_joined, words_joined, word_bytes}
use Rattle.writing.proofs.ListLaws.{list_values}
use Rattle.blocks.proofs.TakeLaws.{fills_take}
use Rattle.psl.specs.declared.Psl.{Psl}
use Rattle.psl.specs.Columns as column
use Rattle.psl.specs.Table.{psl_columns}
use Rattle.psl.specs.Records.{psl_sizes, psl_queries, psl_targets}
use Rattle.psl.specs.Read.{psl_check, psl_read}
use Rattle.psl_laws.proofs.CheckedLaws.{read_roomy}
use Rattle.psl.specs.Rules.{PslLine, placed}
use Rattle.psl.specs.Write.{write_check, psl_words, psl_text}
use Rattle.psl_laws.proofs.LineLaws.{listed_sizes, listed_queries, listed_targets, line_is}
use Rattle.psl_laws.proofs.BackWordLaws.{MayWrite, may_write, word_values, sizes_between, queries_between, targets_between, words_spell, words_worded}
use Rattle.columns.proofs.Meant.{Meant, lists_in, meant_spells}
use Rattle.columns.proofs.WordLaws.{part_bytes_lem}
use Rattle.std.specs.Prelude.{Ok}

-- what a record that may be written reads back as
module _ (r : Psl) (qName tName ts qs zs : List ℕ) (ok : MayWrite r qName tName ts qs zs) where
  abbrev s : List ℕ
  s = psl_text r qName tName ts qs zs

  abbrev words : List (List ℕ)
  words = psl_words r qName tName ts qs zs

  abbrev n : ℕ
  n = r.blockCount

  worded : Worded words
  worded = words_worded r qName tName ts qs zs ok

  text_words : words_of (line_of s) ≡ words
  unfolding psl_text
  text_words = rw (line_joined 9 words [] refl worded) (words_joined 9 words refl worded)

  text_count : word_count s 0 ≡ length psl_columns
  unfolding word_count psl_words psl_columns
  text_count = ap length text_words

  text_allowed : run Allowed s ≡ length s
  unfolding psl_text
  text_allowed = fed_allowed 9 refl words worded

  text_line : lines_of s ≡ line_of s ∷ []
  unfolding psl_text
  text_line = fed_line_lem 9 refl words worded

  text_word : (k : ℕ) → bytes_of s (word_at s 0 k) ≡ get_or words k []
  text_word k = word_bytes s 0 k ∙ ap (λ (x : List (List ℕ)). get_or x k []) text_words

  -- the three lists
  sizes_read : psl_sizes s ≡ take n zs
  unfolding psl_sizes psl_words
  sizes_read = rw (text_word column.block_sizes) (list_values 1 largest_position (take n zs) (omega arith) (sizes_between r qName tName ts qs zs ok))

  queries_read : psl_queries s ≡ take n qs
  unfolding psl_queries psl_words
  queries_read = rw (text_word column.q_starts) (list_values 0 largest_position (take n qs) (omega arith) (queries_between r qName tName ts qs zs ok))

  targets_read : psl_targets s ≡ take n ts
  unfolding psl_targets psl_words
  targets_read = rw (text_word column.t_starts) (list_values 0 largest_position (take n ts) (omega arith) (targets_between r qName tName ts qs zs ok))

  -- the names
  query_read : part_bytes s (placed s r).query.name ≡ qName
  unfolding placed psl_words
  query_read = part_bytes_lem s (word_at s 0 column.q_name) ∙ text_word column.q_name

  target_read : part_bytes s (placed s r).target.name ≡ tName
  unfolding placed psl_words
  target_read = part_bytes_lem s (word_at s 0 column.t_name) ∙ text_word column.t_name

  -- the text is a PSL line that says the record
  line_read : length s ≤ text_limit → PslLine s (word_values r qName tName) (lists_in psl_columns (words_of (line_of s))) (placed s r) (psl_targets s) (psl_queries s) (psl_sizes s)
  unfolding placed
  line_read short =
      let k = ok.rules in
      let words : Meant psl_columns 0 (words_of (line_of s)) (word_values r qName tName) = rw text_words (words_spell r qName tName ts qs zs ok) in
      record {
        line = record { short = short; allowed = text_allowed; one_line = text_line; count = text_count; spelt = meant_spells words };
        matches = refl;
        misMatches = refl;
        repMatches = refl;
        nCount = refl;
        qNumInsert = refl;
        qBaseInsert = refl;
        tNumInsert = refl;
        tBaseInsert = refl;
        strand = refl;
        query = record { name = refl; size = refl; start = refl; end = refl };
        target = record { name = refl; size = refl; start = refl; end = refl };
        blockCount = refl;
        listed_sizes = listed_sizes s text_count;
        listed_queries = listed_queries s text_count;
        listed_targets = listed_targets s text_count;
        query_span = record { some = k.query_span.some; within = k.query_span.within };
        target_span = record { some = k.target_span.some; within = k.target_span.within };
        target_blocks = rw (targets_read, sizes_read) (fills_take _ _ n ts zs k.target_blocks);
        query_blocks = rw (queries_read, sizes_read) (fills_take _ _ n qs zs k.query_blocks);
        counts = rw (targets_read, queries_read, sizes_read) k.counts;
      }

-- THE ROUND TRIP: the writer's checks hold, and the text is short enough
module _ (r : Psl) (qName tName ts qs zs : List ℕ) (ok : write_check r qName tName ts qs zs ≡ Ok tt) (short : length (psl_text r qName tName ts qs zs) ≤ text_limit) where
  abbrev text : List ℕ
  text = psl_text r qName tName ts qs zs

  may : MayWrite r qName tName ts qs zs
  may = may_write r qName tName ts qs zs ok

  pub back_check : psl_check text ≡ Ok (placed text r)
  back_check = line_is text (placed text r) _ _ _ _ _ (line_read r qName tName ts qs zs may short)

  pub back_query : part_bytes text (placed text r).query.name ≡ qName
  back_query = query_read r qName tName ts qs zs may

  pub back_target : part_bytes text (placed text r).target.name ≡ tName
  back_target = target_read r qName tName ts qs zs may

  pub back_sizes : psl_sizes text ≡ take r.blockCount zs
  back_sizes = sizes_read r qName tName ts qs zs may

  pub back_queries : psl_queries text ≡ take r.blockCount qs
  back_queries = queries_read r qName tName ts qs zs may

  pub back_targets : psl_targets text ≡ take r.blockCount ts
  back_targets = targets_read r qName tName ts qs zs may

  -- and with room for its blocks the text is read
  pub back_read : (room : ℕ) → r.blockCount ≤ room → psl_read text room ≡ Ok (placed text r)
  unfolding placed
  back_read room h = read_roomy text room (placed text r) back_check h
