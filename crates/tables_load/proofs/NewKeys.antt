-- Of a table that was read each key is no nil, and new.
use Rattle.std.proofs.Common.{ℕ, zero, suc, ◌≡◌, List, [], ◌∷◌, refl, subst, map, Bool, true, false, cond}
use Rattle.std.specs.Prelude.{nat_lt}
use Rattle.image_core.specs.Image.{Item, Record, table_record, function_record, closed_record, open_record, fresh_record, suspended_record, dead_record, failed_record, no_record, Image}
use Rattle.image_bytes.specs.Format.{of_kind, Got, read, refused, and_then, word, nothing}
use Rattle.image_bytes.specs.Bytes.{Reader, only, is_new_key, row_after, scan_rows, rows_format, table_format, is_table_or_nil, function_format, cell_format, coroutine_format, record_format, scan_records, records_format, exactly, sort_byte, sorts_format, with_sorts, image_format, whole, read_image}
use Rattle.image_sound.specs.Reads.{Gives, All, ImageRead}
use Rattle.image_sound.proofs.Given.{any_gives, wrong_gives, followed_gives, tested_gives, case_gives, tagged_gives, when_gives, read_images_right, halves, read_so}

-- each key is no nil, and none of those before it
abbrev pub KeysNew : Reader → List Item → List (Item × Item) → Type 0
KeysNew R seen [] = Unit {0}
KeysNew R seen (row ∷ rows) = (is_new_key R seen row.0 ≡ true) × KeysNew R (row.0 ∷ seen) rows

abbrev pub RowsNew : Reader → Record → Type 0
RowsNew R (table_record rows m) = KeysNew R [] rows
RowsNew R (function_record code cells) = Unit {0}
RowsNew R (closed_record i) = Unit {0}
RowsNew R (open_record co frame register) = Unit {0}
RowsNew R (fresh_record body) = Unit {0}
RowsNew R (suspended_record frames) = Unit {0}
RowsNew R dead_record = Unit {0}
RowsNew R (failed_record e pending) = Unit {0}
RowsNew R no_record = Unit {0}

module _ (R : Reader) where
  key_gives : (seen : List Item) → Gives (only R (is_new_key R seen)) (λ i. (is_new_key R seen i ≡ true) × Unit {0})
  unfolding only
  key_gives seen = tested_gives _ _ any_gives

  row_gives : (seen : List Item) → Gives (row_after R seen) (λ row. ((is_new_key R seen row.0 ≡ true) × Unit {0}) × Unit {0})
  unfolding row_after
  row_gives seen = followed_gives (key_gives seen) (λ _. any_gives)

  rows_given : (n : ℕ) (seen : List Item) (met more : ℕ) (rows : List (Item × Item)) (bytes rest : List ℕ) → scan_rows R n seen met bytes ≡ read rows more rest → KeysNew R seen rows
  rows_given zero seen met more rows bytes rest e = subst (KeysNew R seen) (read_so e) tt
  rows_given (suc n) seen met more rows bytes rest e =
      let h = halves _ (λ row m rest. and_then (scan_rows R n (row.0 ∷ seen) m rest) (λ rows k left. read (row ∷ rows) k left)) rows more rest e in
      let k = halves _ (λ rows k left. read (h.0 ∷ rows) k left) rows more rest h.4 in
      let r = (row_gives seen).gives met h.1 h.0 bytes h.2 h.3 in
      subst (KeysNew R seen) (read_so k.4) (r.0.0, rows_given n (h.0.0 ∷ seen) h.1 k.1 k.0 h.2 k.2 k.3)

  rows_gives : (n : ℕ) → Gives (rows_format R n) (KeysNew R [])
  unfolding rows_format
  rows_gives n = record { gives = rows_given n [] }

  table_new : Gives (table_format R) (RowsNew R)
  unfolding table_format
  table_new = case_gives _ _ (λ y h. h.0.1) (followed_gives (followed_gives (any_gives {F = word}) rows_gives) (λ _. any_gives {F = only R (is_table_or_nil R)}))

  function_new : Gives (function_format R) (RowsNew R)
  unfolding function_format
  function_new = case_gives _ _ (λ y h. tt) any_gives

  cell_new : Gives (cell_format R) (RowsNew R)
  unfolding cell_format
  cell_new = tagged_gives _ (λ t. when_gives _ _ (case_gives _ _ (λ y h. tt) any_gives) (when_gives _ _ (case_gives _ _ (λ y h. tt) any_gives) (wrong_gives _ _)))

  coroutine_new : Gives (coroutine_format R) (RowsNew R)
  unfolding coroutine_format
  coroutine_new = tagged_gives _ (λ t.
      when_gives _ _ (case_gives _ _ (λ y h. tt) any_gives)
      (when_gives _ _ (case_gives _ _ (λ y h. tt) any_gives)
      (when_gives _ _ (case_gives _ _ (λ y h. tt) (any_gives {F = nothing}))
      (when_gives _ _ (case_gives _ _ (λ y h. tt) any_gives)
      (wrong_gives _ _)))))

  record_new : (s : ℕ) → Gives (record_format R s) (RowsNew R)
  unfolding record_format
  record_new s = when_gives _ _ table_new (when_gives _ _ function_new (when_gives _ _ cell_new (when_gives _ _ coroutine_new (wrong_gives _ _))))

  records_given : (ss : List ℕ) (at met more : ℕ) (rs : List Record) (bytes rest : List ℕ) → scan_records R at ss met bytes ≡ read rs more rest → All (RowsNew R) rs
  records_given [] at met more rs bytes rest e = subst (All (RowsNew R)) (read_so e) tt
  records_given (s ∷ ss) at met more rs bytes rest e = go (nat_lt at met) e (λ m more rs bytes rest e. records_given ss (suc at) m more rs bytes rest e)
    where
      go : (b : Bool) → cond b (and_then ((record_format R s).scan met bytes) (λ r m rest. and_then (scan_records R (suc at) ss m rest) (λ rs k left. read (r ∷ rs) k left))) (refused (of_kind 4)) ≡ read rs more rest
          → ((m more : ℕ) (rs : List Record) (bytes rest : List ℕ) → scan_records R (suc at) ss m bytes ≡ read rs more rest → All (RowsNew R) rs) → All (RowsNew R) rs
      go false e again = absurd (cc)
      go true e again =
          let h = halves _ (λ r m rest. and_then (scan_records R (suc at) ss m rest) (λ rs k left. read (r ∷ rs) k left)) rs more rest e in
          let k = halves _ (λ rs k left. read (h.0 ∷ rs) k left) rs more rest h.4 in
          subst (All (RowsNew R)) (read_so k.4) ((record_new s).gives met h.1 h.0 bytes h.2 h.3, again h.1 k.1 k.0 h.2 k.2 k.3)

  records_gives : Gives (records_format R) (All (RowsNew R))
  unfolding records_format
  records_gives = record { gives = records_given R.sorts 0 }

abbrev AnyNew : Reader → Image → Type 0
AnyNew R I = (sorts : List ℕ) × All (RowsNew (with_sorts R sorts)) I.records

image_gives : (R : Reader) (n : ℕ) → Gives (image_format R n) (AnyNew R)
unfolding image_format
image_gives R n = case_gives _ _ (λ y h. (y.1.1.1.1.1.0, h.1.1.1.1.1.1.1))
    (followed_gives (any_gives {F = exactly 76 1}) (λ _. followed_gives (any_gives {F = exactly 85 1}) (λ _. followed_gives (any_gives {F = exactly 73 1}) (λ _. followed_gives (any_gives {F = exactly 77 1}) (λ _. followed_gives (any_gives {F = exactly 1 2}) (λ _.
    followed_gives (any_gives {F = sorts_format}) (λ sorts. followed_gives any_gives (λ _. records_gives (with_sorts R sorts)))))))))

-- which keys are the same does not hang on the sorts of records
keys_on : (R : Reader) (s t : List ℕ) (seen : List Item) (rows : List (Item × Item)) → KeysNew (with_sorts R s) seen rows → KeysNew (with_sorts R t) seen rows
keys_on R s t seen [] h = tt
keys_on R s t seen (row ∷ rows) h = (h.0, keys_on R s t (row.0 ∷ seen) rows h.1)

rows_on : (R : Reader) (s t : List ℕ) (r : Record) → RowsNew (with_sorts R s) r → RowsNew (with_sorts R t) r
rows_on R s t (table_record rows m) h = keys_on R s t [] rows h
rows_on R s t _ h = tt

all_on : (R : Reader) (s t : List ℕ) (rs : List Record) → All (RowsNew (with_sorts R s)) rs → All (RowsNew (with_sorts R t)) rs
all_on R s t [] h = tt
all_on R s t (r ∷ rs) h = (rows_on R s t r h.0, all_on R s t rs h.1)

-- what is known of an image that was read
pub record TablesRead (R : Reader) (roots : ℕ) (I : Image) : Type 0 where
  pub right : ImageRead R roots I
  pub new : All (RowsNew (with_sorts R (map sort_byte I.records))) I.records

pub tables_read : (R : Reader) (roots met : ℕ) (I : Image) (bytes : List ℕ) → read_image R roots bytes ≡ read I met [] → TablesRead R roots I
tables_read R n met I bytes e = record { right = read_images_right R n met I bytes e; new = at_end ((image_format R n).scan 0 bytes) refl e }
  where
    at_end : (g : Got Image) → (image_format R n).scan 0 bytes ≡ g → whole g ≡ read I met [] → All (RowsNew (with_sorts R (map sort_byte I.records))) I.records
    at_end (read J m []) f e =
        let a = (image_gives R n).gives 0 m J bytes [] f in
        let b = subst (AnyNew R) (read_so e) a in
        all_on R b.0 (map sort_byte I.records) I.records b.1
    at_end (read J m (b ∷ rest)) f e = absurd (cc)
    at_end (refused fault) f e = absurd (cc)
