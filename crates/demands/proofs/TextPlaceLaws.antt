-- The refusals of the three text checkers and readers stand in the text. Assumes nothing.
use mathlib.Core.Path.{◌≡◌, refl, sym}
use mathlib.Core.Bool.{Bool, true, false, ◌&&◌, cond}
use mathlib.Core.List.{List, [], ◌∷◌}
use Prim.Native.Nat.{ℕ, zero, suc, ◌+◌, ◌-◌, ◌*◌, ◌≤◌, ◌<◌, zero-le}
use native.Mathlib.Nat.{le_refl}
use lib.ListN.{length, take, get_or}
use lib.Dec.{leb, ltb, eqb}
use Rattle.std.specs.Prelude.{Ok, Err, Result, ⊤}
use Rattle.ledger.specs.Refusals.{fault_at, require}
use Rattle.ledger.specs.declared.Reason.TheVariants.{WrongCount, SpanDisagrees, BlockRules, CountsDisagree, NoRoom}
use Rattle.ledger.specs.Limits.{text_limit, block_limit}
use Rattle.ledger.specs.declared.Fault.{Fault}
use Rattle.ledger.specs.declared.Refusal.{Refusal}
use Rattle.text.specs.Pieces.{line_of, words_of}
use Rattle.text.specs.Words.{next_line, next_word, word_count}
use Rattle.text.specs.Checks.{then_check, room_check, text_check, words_check, last_line_check}
use Rattle.text.proofs.Laws.{text_long}
use Rattle.numbers.specs.Numbers.{number_of}
use Rattle.columns.specs.Columns.{then_next, columns_from, values_from}
use Rattle.columns.specs.OneLine.{count_check, line_read}
use Rattle.blocks.specs.Readers.{then_room}
use Rattle.blocks.specs.Blocks.{blocks_fill, span_fits}
use Rattle.binary.specs.Bytes.{word_size}
use Rattle.bed.specs.declared.Bed.{Bed}
use Rattle.bed.specs.Columns as column
use Rattle.bed.specs.Table.{bed_columns}
use Rattle.bed.specs.Records.{is_word_count, bed_record, bed_sizes, bed_starts}
use Rattle.bed.specs.Read as bed
use Rattle.psl.specs.declared.Psl.{Psl}
use Rattle.psl.specs.Table.{psl_columns}
use Rattle.psl.specs.Records.{psl_record, psl_sizes, psl_queries, psl_targets}
use Rattle.psl.specs.Rows.{rows_fit, counts_fit}
use Rattle.psl.specs.Read as psl
use Rattle.number_line.specs.Numbers as numbers
use Rattle.chain.specs.declared.BlockLine.{BlockLine}
use Rattle.chain.specs.declared.BlockLine.TheVariants.{Last, Gap}
use Rattle.chain.specs.declared.Ending.{Ending}
use Rattle.chain.specs.declared.Chain.{Chain}
use Rattle.chain.specs.Table.{chain_columns, block_columns}
use Rattle.chain.specs.Records.{chain_record}
use Rattle.chain.specs.Read as chain
use Rattle.text.proofs.ShowLaws.{next_in, line_in}
use Rattle.demands.proofs.PlaceLaws.{fault_place, required, then_place, next_place, text_place, words_place, last_place, columns_place, columns_place_lem, values_place, line_place}

-- ---- BED
abbrev pub bed_place : Result Bed Refusal → ℕ
bed_place (Ok r) = 0
bed_place (Err x) = x.place

abbrev bed_fault : Result Bed Fault → ℕ
bed_fault (Ok r) = 0
bed_fault (Err x) = x.place

bed_told : (a : Result Bed Fault) (n : ℕ) → bed_fault a ≤ n → bed_place (bed.bed_answer a) ≤ n
bed_told (Ok r) n h = h
bed_told (Err x) n h = h

module _ (s : List ℕ) where
  bed_check : (c : Result ⊤ Fault) (rest : Result Bed Fault) → fault_place c ≤ length s → bed_fault rest ≤ length s → bed_fault (then_check Err c rest) ≤ length s
  bed_check = then_place bed_fault Err (length s) (λ x. refl)

  bed_columns_lem : (c : Result ℕ Fault) (rest : Result Bed Fault) → columns_place c ≤ length s → bed_fault rest ≤ length s → bed_fault (then_next Err c rest) ≤ length s
  bed_columns_lem = next_place bed_fault Err (length s) (λ x. refl)

  bed_spans : (n : ℕ) (r : Bed) → fault_place (bed.span_check r (values_from (take n bed_columns) 0 s 0)) ≤ length s
  unfolding bed.span_check
  bed_spans n r =
      let at = values_place s (take n bed_columns) 0 0 in
      required (length s) (ltb r.chromStart r.chromEnd) SpanDisagrees _ _ (at 2 zero-le)
      (required (length s) (bed.thick_fits r) SpanDisagrees _ (Ok tt) (thick (ltb column.thick_end r.words) _ _ (at 7 zero-le) (at 6 zero-le)) zero-le)
    where
      thick : (t : Bool) (a b : ℕ) → a ≤ length s → b ≤ length s → cond t a b ≤ length s
      thick true a b h k = h
      thick false a b h k = k

  bed_stages : bed_fault (bed.bed_stages s) ≤ length s
  unfolding bed.bed_stages bed.after_text bed.after_words bed.after_columns bed.after_spans bed.block_check
  bed_stages =
      let n = word_count s 0 in
      let r = bed_record n (length s) (values_from (take n bed_columns) 0 s 0) in
      bed_check (text_check s) _ (text_place s)
      (bed_check (bed.bed_words_check s n) _ (words_place s 0 n 12 (is_word_count n) zero-le)
      (bed_columns_lem (columns_from (take n bed_columns) 0 s 0) _ (columns_place_lem s (take n bed_columns) 0 0 zero-le)
      (bed_check (last_line_check s 0) _ (last_place s 0 zero-le)
      (bed_check (bed.span_check r (values_from (take n bed_columns) 0 s 0)) _ (bed_spans n r)
      (bed_check (bed.block_check s r) (Ok r) (required (length s) (blocks_fill 0 (r.chromEnd - r.chromStart) (bed_starts s r) (bed_sizes s r)) BlockRules _ (Ok tt) (le_refl (length s)) zero-le) zero-le)))))

  pub bed_in : bed_place (bed.bed_check s) ≤ length s
  unfolding bed.bed_check
  bed_in = bed_told (bed.bed_stages s) (length s) bed_stages

  -- no text is longer than its limit and refused past its first byte
  pub bed_long : text_limit < length s → bed_place (bed.bed_check s) ≡ 0
  unfolding bed.bed_check bed.bed_stages
  bed_long h = rw (sym (text_long s h))

  -- with the room tested last, at the text's end
  pub bed_read_in : (room : ℕ) → bed_place (bed.bed_read s room) ≤ length s
  unfolding bed.bed_read
  bed_read_in room = bed_told (then_room bed.on_reading Err (λ (r : Bed). r.blockCount) s room (bed.bed_stages s)) (length s) (go (bed.bed_stages s) bed_stages)
    where
      go : (a : Result Bed Fault) → bed_fault a ≤ length s → bed_fault (then_room bed.on_reading Err (λ (r : Bed). r.blockCount) s room a) ≤ length s
      go (Ok r) h = bed_check (room_check s r.blockCount room) (Ok r) (required (length s) (leb r.blockCount room) NoRoom _ (Ok tt) (le_refl (length s)) zero-le) zero-le
      go (Err x) h = h

-- ---- PSL
abbrev pub psl_place : Result Psl Refusal → ℕ
psl_place (Ok r) = 0
psl_place (Err x) = x.place

abbrev psl_fault : Result Psl Fault → ℕ
psl_fault (Ok r) = 0
psl_fault (Err x) = x.place

psl_told : (a : Result Psl Fault) (n : ℕ) → psl_fault a ≤ n → psl_place (psl.psl_answer a) ≤ n
psl_told (Ok r) n h = h
psl_told (Err x) n h = h

module _ (s : List ℕ) where
  psl_check : (c : Result ⊤ Fault) (rest : Result Psl Fault) → fault_place c ≤ length s → psl_fault rest ≤ length s → psl_fault (then_check Err c rest) ≤ length s
  psl_check = then_place psl_fault Err (length s) (λ x. refl)

  psl_line : (c : Result ℕ Fault) (rest : Result Psl Fault) → columns_place c ≤ length s → psl_fault rest ≤ length s → psl_fault (then_next Err c rest) ≤ length s
  psl_line = next_place psl_fault Err (length s) (λ x. refl)

  psl_stages : psl_fault (psl.psl_stages s) ≤ length s
  unfolding psl.psl_stages psl.after_line psl.span_check psl.row_check
  psl_stages =
      let vs = values_from psl_columns 0 s 0 in
      let r = psl_record vs in
      let q = r.query in
      let t = r.target in
      psl_line (line_read psl_columns s) _ (line_place s psl_columns)
      (psl_check (psl.span_check r vs) _
      (required (length s) (span_fits q.start q.end q.size) SpanDisagrees _ _ (values_place s psl_columns 0 0 12 zero-le)
      (required (length s) (span_fits t.start t.end t.size) SpanDisagrees _ (Ok tt) (values_place s psl_columns 0 0 16 zero-le) zero-le))
      (psl_check (psl.row_check s r) (Ok r)
      (required (length s) (rows_fit r (psl_targets s) (psl_queries s) (psl_sizes s)) BlockRules _ _ (le_refl (length s))
      (required (length s) (counts_fit r.counts (psl_targets s) (psl_queries s) (psl_sizes s)) CountsDisagree _ (Ok tt) (le_refl (length s)) zero-le)) zero-le))

  pub psl_in : psl_place (psl.psl_check s) ≤ length s
  unfolding psl.psl_check
  psl_in = psl_told (psl.psl_stages s) (length s) psl_stages

  pub psl_long : text_limit < length s → psl_place (psl.psl_check s) ≡ 0
  unfolding psl.psl_check psl.psl_stages line_read
  psl_long h = rw (sym (text_long s h))

  -- with the room tested last, at the text's end
  pub psl_read_in : (room : ℕ) → psl_place (psl.psl_read s room) ≤ length s
  unfolding psl.psl_read
  psl_read_in room = psl_told (then_room psl.on_reading Err (λ (r : Psl). r.blockCount) s room (psl.psl_stages s)) (length s) (go (psl.psl_stages s) psl_stages)
    where
      go : (a : Result Psl Fault) → psl_fault a ≤ length s → psl_fault (then_room psl.on_reading Err (λ (r : Psl). r.blockCount) s room a) ≤ length s
      go (Ok r) h = psl_check (room_check s r.blockCount room) (Ok r) (required (length s) (leb r.blockCount room) NoRoom _ (Ok tt) (le_refl (length s)) zero-le) zero-le
      go (Err x) h = h

-- ---- a line of numbers
abbrev pub numbers_place : Result ℕ Refusal → ℕ
numbers_place (Ok n) = 0
numbers_place (Err x) = x.place

abbrev numbers_fault : Result ℕ Fault → ℕ
numbers_fault (Ok n) = 0
numbers_fault (Err x) = x.place

numbers_told : (a : Result ℕ Fault) (n : ℕ) → numbers_fault a ≤ n → numbers_place (numbers.numbers_answer a) ≤ n
numbers_told (Ok m) n h = h
numbers_told (Err x) n h = h

module _ (s : List ℕ) where
  numbers_words : (at : ℕ) (ws : List (List ℕ)) → at ≤ length s → fault_place (numbers.words_from s at ws) ≤ length s
  unfolding numbers.words_from
  numbers_words at [] h = zero-le
  numbers_words at (w ∷ ws) h = go (number_of 0 numbers.largest_listed w) (numbers_words (next_word s at).end ws (next_in s at h).1)
    where
      go : (x : Result ℕ Fault) → fault_place (numbers.words_from s (next_word s at).end ws) ≤ length s → fault_place (numbers.or_word x (next_word s at).start (numbers.words_from s (next_word s at).end ws)) ≤ length s
      go (Ok v) k = k
      go (Err bad) k = (next_in s at h).0

  numbers_check : (c : Result ⊤ Fault) (rest : Result ℕ Fault) → fault_place c ≤ length s → numbers_fault rest ≤ length s → numbers_fault (then_check Err c rest) ≤ length s
  numbers_check = then_place numbers_fault Err (length s) (λ x. refl)

  numbers_stages : numbers_fault (numbers.numbers_stages s) ≤ length s
  unfolding numbers.numbers_stages
  numbers_stages =
      numbers_check (text_check s) _ (text_place s)
      (numbers_check (numbers.words_from s 0 (words_of (line_of s))) _ (numbers_words 0 (words_of (line_of s)) zero-le)
      (numbers_check (last_line_check s 0) _ (last_place s 0 zero-le) zero-le))

  pub numbers_in_lem : numbers_place (numbers.numbers_check s) ≤ length s
  unfolding numbers.numbers_check
  numbers_in_lem = numbers_told (numbers.numbers_stages s) (length s) numbers_stages

  pub numbers_long : text_limit < length s → numbers_place (numbers.numbers_check s) ≡ 0
  unfolding numbers.numbers_check numbers.numbers_stages
  numbers_long h = rw (sym (text_long s h))

  -- with the room tested last, at the text's end
  pub numbers_read_in : (room : ℕ) → numbers_place (numbers.numbers_read s room) ≤ length s
  unfolding numbers.numbers_read
  numbers_read_in room = numbers_told (numbers.then_room (numbers.numbers_stages s) (length s) room) (length s) (go (numbers.numbers_stages s) numbers_stages)
    where
      fits : (t : Bool) (n : ℕ) → numbers_fault (require t (Err (fault_at NoRoom (length s))) (Ok n)) ≤ length s
      fits true n = zero-le
      fits false n = le_refl (length s)

      go : (a : Result ℕ Fault) → numbers_fault a ≤ length s → numbers_fault (numbers.then_room a (length s) room) ≤ length s
      go (Ok n) h = fits (leb (word_size * n) room) n
      go (Err x) h = h

-- ---- chains: where its lines end, or are refused
abbrev pub chain_place : Result Chain Refusal → ℕ
chain_place (Ok r) = 0
chain_place (Err x) = x.place

abbrev chain_fault : Result Chain Fault → ℕ
chain_fault (Ok r) = 0
chain_fault (Err x) = x.place

chain_told : (a : Result Chain Fault) (n : ℕ) → chain_fault a ≤ n → chain_place (chain.chain_answer a) ≤ n
chain_told (Ok r) n h = h
chain_told (Err x) n h = h

abbrev block_place : Result BlockLine Fault → ℕ
block_place (Ok (Last z)) = 0
block_place (Ok (Gap z dt dq)) = 0
block_place (Err x) = x.place

abbrev lines_place : Result Ending Fault → ℕ
lines_place (Ok e) = e.line
lines_place (Err x) = x.place

module _ (s : List ℕ) where
  chain_check : (c : Result ⊤ Fault) (rest : Result Chain Fault) → fault_place c ≤ length s → chain_fault rest ≤ length s → chain_fault (then_check Err c rest) ≤ length s
  chain_check = then_place chain_fault Err (length s) (λ x. refl)

  chain_columns_lem : (c : Result ℕ Fault) (rest : Result Chain Fault) → columns_place c ≤ length s → chain_fault rest ≤ length s → chain_fault (then_next Err c rest) ≤ length s
  chain_columns_lem = next_place chain_fault Err (length s) (λ x. refl)

  chain_lines : (x : Result Ending Fault) (rest : Ending → Result Chain Fault) → lines_place x ≤ length s → ((e : Ending) → e.line ≤ length s → chain_fault (rest e) ≤ length s) → chain_fault (chain.then_lines x rest) ≤ length s
  chain_lines (Ok e) rest h k = k e h
  chain_lines (Err x) rest h k = h

  block_in : (line : ℕ) → line ≤ length s → block_place (chain.block_line s line) ≤ length s
  unfolding chain.block_line chain.block_words chain.block_numbers
  block_in line h =
      let n = word_count s line in
      checked (words_check s line n 3 (chain.is_block_count n)) _ (words_place s line n 3 (chain.is_block_count n) h)
      (read (columns_from (take n block_columns) 0 s line) (eqb n 1) _ _ _ _ (columns_place_lem s (take n block_columns) 0 line h))
    where
      checked : (c : Result ⊤ Fault) (rest : Result BlockLine Fault) → fault_place c ≤ length s → block_place rest ≤ length s → block_place (then_check Err c rest) ≤ length s
      checked = then_place block_place Err (length s) (λ x. refl)

      read : (c : Result ℕ Fault) (t : Bool) (y z dt dq : ℕ) → columns_place c ≤ length s → block_place (then_next Err c (cond t (Ok (Last y)) (Ok (Gap z dt dq)))) ≤ length s
      read (Ok e) true y z dt dq h = zero-le
      read (Ok e) false y z dt dq h = zero-le
      read (Err x) t y z dt dq h = h

  line_there : (v : Bool) (rest : Result Ending Fault) → lines_place rest ≤ length s → lines_place (cond v rest (Err (record { reason = WrongCount; place = length s }))) ≤ length s
  line_there true rest k = k
  line_there false rest k = le_refl (length s)

  lines_in : (k line t q : ℕ) → line ≤ length s → lines_place (chain.lines_from k s line t q) ≤ length s
  unfolding chain.lines_from chain.limit_check
  lines_in zero line t q h = line_there (ltb line (length s)) _ h
  lines_in (suc k) line t q h =
      line_there (ltb line (length s)) _
      (each (chain.block_line s line) (λ z dt dq. lines_in k (next_line s line) (t + z + dt) (q + z + dq) (line_in s line h)) (block_in line h))
    where
      each : (x : Result BlockLine Fault) → ((z dt dq : ℕ) → lines_place (chain.lines_from k s (next_line s line) (t + z + dt) (q + z + dq)) ≤ length s) → block_place x ≤ length s
          → lines_place (chain.then_block x (λ z. Ok (chain.ending_at line (block_limit - k) (t + z) (q + z))) (λ z dt dq. chain.lines_from k s (next_line s line) (t + z + dt) (q + z + dq))) ≤ length s
      each (Ok (Last z)) f l = h
      each (Ok (Gap z dt dq)) f l = f z dt dq
      each (Err x) f l = l

  chain_stages : chain_fault (chain.chain_stages s) ≤ length s
  unfolding chain.chain_stages chain.after_text chain.after_words chain.after_columns chain.after_spans chain.after_lines chain.after_last chain.span_check chain.fill_check count_check
  chain_stages =
      let vs = values_from chain_columns 0 s 0 in
      let r = chain_record vs 0 in
      chain_check (text_check s) _ (text_place s)
      (chain_check (count_check s 0 13) _ (words_place s 0 (word_count s 0) 13 (leb 13 (word_count s 0)) zero-le)
      (chain_columns_lem (columns_from chain_columns 0 s 0) _ (columns_place_lem s chain_columns 0 0 zero-le)
      (chain_check (chain.span_check r vs) _
      (required (length s) (span_fits r.tStart r.tEnd r.tSize) SpanDisagrees _ _ (values_place s chain_columns 0 0 6 zero-le)
      (required (length s) (span_fits r.qStart r.qEnd r.qSize) SpanDisagrees _ (Ok tt) (values_place s chain_columns 0 0 11 zero-le) zero-le))
      (chain_lines (chain.lines_from block_limit s (next_line s 0) (get_or vs 10 0) (get_or vs 20 0)) (λ e. chain.after_lines s vs e) (lines_in block_limit (next_line s 0) _ _ (line_in s 0 zero-le))
      (λ e h. chain_check (last_line_check s e.line) _ (last_place s e.line h)
      (chain_check (chain.fill_check s (chain_record vs e.count) e) (Ok (chain_record vs e.count))
      (required (length s) (eqb e.target (chain_record vs e.count).tEnd && eqb e.query (chain_record vs e.count).qEnd) BlockRules _ (Ok tt) (le_refl (length s)) zero-le) zero-le))))))

  pub chain_in : chain_place (chain.chain_check s) ≤ length s
  unfolding chain.chain_check
  chain_in = chain_told (chain.chain_stages s) (length s) chain_stages

  pub chain_long_lem : text_limit < length s → chain_place (chain.chain_check s) ≡ 0
  unfolding chain.chain_check chain.chain_stages
  chain_long_lem h = rw (sym (text_long s h))

  -- with the room tested last, at the text's end
  pub chain_read_in : (room : ℕ) → chain_place (chain.chain_read s room) ≤ length s
  unfolding chain.chain_read chain.chain_roomed
  chain_read_in room = chain_told (then_room chain.on_reading Err (λ (r : Chain). r.blockCount) s room (chain.chain_stages s)) (length s) (go (chain.chain_stages s) chain_stages)
    where
      go : (a : Result Chain Fault) → chain_fault a ≤ length s → chain_fault (then_room chain.on_reading Err (λ (r : Chain). r.blockCount) s room a) ≤ length s
      go (Ok r) h = chain_check (room_check s r.blockCount room) (Ok r) (required (length s) (leb r.blockCount room) NoRoom _ (Ok tt) (le_refl (length s)) zero-le) zero-le
      go (Err x) h = h
