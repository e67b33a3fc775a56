-- What formats give is right, part by part.
use Rattle.std.proofs.Common.{arith, ℕ, zero, suc, ◌≤◌, ◌≡◌, List, [], ◌∷◌, Option, Some, refl, subst, sym, ap, ◌∙◌, length, map, Bool, true, false, cond}
use Rattle.std.specs.Prelude.{nat_eq, nat_le, ◌&&◌}
use Rattle.std.specs.List.{list_any}
use Rattle.code_core.specs.Prototype.{Prototype}
use Rattle.chunk_format.specs.Reading as chunk
use Rattle.int_core.specs.Value.{Kind, a_table, a_function, a_coroutine, greatest_string}
use Rattle.machine_core.specs.World.{Wait, for_call, for_iterator, for_value, for_truth, dropped, for_close}
use Rattle.image_core.specs.Image.{Item, Record, table_record, function_record, closed_record, open_record, fresh_record, suspended_record, dead_record, failed_record, no_record, Image}
use Rattle.image_bytes.specs.Format.{Fault, of_kind, Got, read, refused, and_then, Format, byte, word, integer_of, raw, nothing, wrong, followed, tested, case, tagged, when, scan_times, times, list_by, list}
use Rattle.image_bytes.specs.Bytes.{Reader, text, sort_at, reference, is_sort, named_key, item_body, item_format, only, is_new_key, row_after, scan_rows, rows_format, table_format, is_table_or_nil, is_function_item, code_told, code_read, code_format, function_format, cell_format, plain_wait, wait_rest, lua_format, error_format, frame_format, coroutine_format, record_format, scan_records, records_format, exactly, sort_byte, sorts_format, with_sorts, ImageParts, image_made, image_format, whole}
use Rattle.image_core.specs.Loading.{kind_in}
use Rattle.image_sound.specs.Reads.{Gives, ItemRead, All, RowRead, WaitRead, LuaRead, ErrorRead, FrameRead, RecordRead, ImageRead, ReadImagesRight, NumbersNameRecords}
use Rattle.image_bytes.proofs.Back.{equal_true}

-- the two halves of a reading that went through
pub halves : {A B : Type 0} (got : Got A) (more : A → ℕ → List ℕ → Got B) (y : B) (m : ℕ) (rest : List ℕ) → and_then got more ≡ read y m rest → (x : A) × (k : ℕ) × (behind : List ℕ) × (got ≡ read x k behind) × (more x k behind ≡ read y m rest)
halves (read x k behind) more y m rest e = (x, k, behind, refl, e)
halves (refused f) more y m rest e = absurd (cc)

pub read_so : {A : Type 0} {x y : A} {m n : ℕ} {a b : List ℕ} → read x m a ≡ read y n b → x ≡ y
read_so e = cc

pub any_gives : {A : Type 0} {F : Format A} → Gives F (λ _. Unit {0})
any_gives = record { gives = λ met more x bytes rest e. tt }

pub wrong_gives : {A : Type 0} (kind : ℕ) (P : A → Type 0) → Gives (wrong kind) P
unfolding wrong
wrong_gives kind P = record { gives = λ met more x bytes rest e. absurd (cc) }

pub followed_gives : {A B : Type 0} {F : Format A} {G : A → Format B} {P : A → Type 0} {Q : A → B → Type 0} → Gives F P → ((a : A) → Gives (G a) (Q a)) → Gives (followed F G) (λ x. P x.0 × Q x.0 x.1)
unfolding followed
followed_gives {G = G} {P = P} {Q = Q} f g = record {
  gives = λ met more x bytes rest e.
      let h = halves _ (λ a m rest. and_then ((G a).scan m rest) (λ b n left. read (a, b) n left)) x more rest e in
      let k = halves _ (λ b n left. read (h.0, b) n left) x more rest h.4 in
      subst (λ x. P x.0 × Q x.0 x.1) (read_so k.4) (f.gives met h.1 h.0 bytes h.2 h.3, (g h.0).gives h.1 k.1 k.0 h.2 k.2 k.3);
}

pub tested_gives : {A : Type 0} (ok : A → Bool) (fault : A → Fault) {F : Format A} {P : A → Type 0} → Gives F P → Gives (tested ok fault F) (λ x. (ok x ≡ true) × P x)
unfolding tested
tested_gives ok fault {P = P} f = record {
  gives = λ met more x bytes rest e.
      let h = halves _ (λ a m rest. cond (ok a) (read a m rest) (refused (fault a))) x more rest e in
      let t = passed h.0 h.1 more h.2 rest x (ok h.0) h.4 in
      subst (λ x. (ok x ≡ true) × P x) t.1 (t.0, f.gives met h.1 h.0 bytes h.2 h.3);
}
  where
    passed : (a : _) (m n : ℕ) (left rest : List ℕ) (x : _) (b : Bool) → cond b (read a m left) (refused (fault a)) ≡ read x n rest → (b ≡ true) × (a ≡ x)
    passed a m n left rest x true e = (refl, read_so e)
    passed a m n left rest x false e = absurd (cc)

pub case_gives : {A B : Type 0} (made : B → A) (of : A → Option B) {F : Format B} {P : B → Type 0} {Q : A → Type 0} → ((y : B) → P y → Q (made y)) → Gives F P → Gives (case made of F) Q
unfolding case
case_gives made of {Q = Q} law f = record {
  gives = λ met more x bytes rest e.
      let h = halves _ (λ y m rest. read (made y) m rest) x more rest e in
      subst Q (read_so h.4) (law h.0 (f.gives met h.1 h.0 bytes h.2 h.3));
}

pub tagged_gives : {A : Type 0} (tag : A → ℕ) {body : ℕ → Format A} {P : A → Type 0} → ((t : ℕ) → Gives (body t) P) → Gives (tagged tag body) P
unfolding tagged
tagged_gives tag {body = body} f = record {
  gives = λ met more x bytes rest e.
      let h = halves _ (λ t m rest. (body t).scan m rest) x more rest e in
      (f h.0).gives h.1 more x h.2 rest h.4;
}

pub when_gives : {A : Type 0} (t n : ℕ) {F G : Format A} {P : A → Type 0} → Gives F P → Gives G P → Gives (when t n F G) P
unfolding when
when_gives t n {F = F} {G = G} {P = P} f g = go (nat_eq t n)
  where
    go : (b : Bool) → Gives (cond b F G) P
    go true = f
    go false = g

all_given : {A : Type 0} (F : Format A) (P : A → Type 0) → Gives F P → (n met more : ℕ) (xs : List A) (bytes rest : List ℕ) → scan_times F n met bytes ≡ read xs more rest → (n ≡ length xs) × All P xs
all_given F P f zero met more xs bytes rest e = subst (λ xs. (0 ≡ length xs) × All P xs) (read_so e) (refl, tt)
all_given F P f (suc n) met more xs bytes rest e =
    let h = halves _ (λ x m rest. and_then (scan_times F n m rest) (λ xs k left. read (x ∷ xs) k left)) xs more rest e in
    let k = halves _ (λ xs k left. read (h.0 ∷ xs) k left) xs more rest h.4 in
    let r = all_given F P f n h.1 k.1 k.0 h.2 k.2 k.3 in
    subst (λ xs. (suc n ≡ length xs) × All P xs) (read_so k.4) (ap suc r.0, (f.gives met h.1 h.0 bytes h.2 h.3, r.1))

pub times_gives : {A : Type 0} (n : ℕ) {F : Format A} {P : A → Type 0} → Gives F P → Gives (times n F) (λ xs. (n ≡ length xs) × All P xs)
unfolding times
times_gives n {F = F} {P = P} f = record { gives = all_given F P f n }

-- the formats of images

at_most : (a b : ℕ) → nat_le a b ≡ true → a ≤ b
at_most a b h = search (arith, h)

raw_gives : (n : ℕ) → Gives (raw n) (λ s. length s ≤ n)
unfolding raw
raw_gives n = record { gives = λ met more x bytes rest e. go (Rattle.std.specs.Prelude.nat_lt (length bytes) n) met more x bytes rest e }
  where
    short : (n : ℕ) (xs : List ℕ) → length (Rattle.std.specs.Prelude.take n xs) ≤ n
    short zero xs = omega arith
    short (suc n) [] = omega arith
    short (suc n) (x ∷ xs) = let s = short n xs in omega (arith, s)

    go : (b : Bool) (met more : ℕ) (x bytes rest : List ℕ) → cond b (refused (of_kind 3)) (read (Rattle.std.specs.Prelude.take n bytes) met (Rattle.std.specs.Prelude.drop n bytes)) ≡ read x more rest → length x ≤ n
    go true met more x bytes rest e = absurd (cc)
    go false met more x bytes rest e = subst (λ x. length x ≤ n) (read_so e) (short n bytes)

text_gives : Gives text (λ s. length s ≤ greatest_string)
unfolding text
text_gives = case_gives _ _ (λ y h. let a = at_most y.0 greatest_string h.0.0 in let b = h.1 in omega (arith, a, b)) (followed_gives (tested_gives _ _ any_gives) raw_gives)

reference_gives : (sorts wanted : List ℕ) → Gives (reference sorts wanted) (λ n. list_any (nat_eq (sort_at sorts n)) wanted ≡ true)
unfolding reference
reference_gives sorts wanted = record {
  gives = λ met more x bytes rest e.
      let h = halves _ (λ n m rest. cond (list_any (nat_eq (sort_at sorts n)) wanted) (read n m rest) (refused (of_kind 5))) x more rest e in
      go h.0 h.1 more h.2 rest x (list_any (nat_eq (sort_at sorts h.0)) wanted) refl h.4;
}
  where
    go : (n m k : ℕ) (left rest : List ℕ) (x : ℕ) (b : Bool) → list_any (nat_eq (sort_at sorts n)) wanted ≡ b → cond b (read n m left) (refused (of_kind 5)) ≡ read x k rest → list_any (nat_eq (sort_at sorts x)) wanted ≡ true
    go n m k left rest x true t e = subst (λ n. list_any (nat_eq (sort_at sorts n)) wanted ≡ true) (read_so e) t
    go n m k left rest x false t e = absurd (cc)

module _ (R : Reader) where
  named_gives : (kind : Kind) → Gives (named_key R kind) (λ k. (is_sort kind (R.sort_named k) ≡ true) × Unit {0})
  unfolding named_key
  named_gives kind = tested_gives _ _ any_gives

  body_gives : (t : ℕ) → Gives (item_body R t) (ItemRead R)
  unfolding item_body
  body_gives t =
      when_gives _ _ (case_gives _ _ (λ y h. tt) (any_gives {F = nothing}))
      (when_gives _ _ (case_gives _ _ (λ y h. tt) (any_gives {F = nothing}))
      (when_gives _ _ (case_gives _ _ (λ y h. tt) (any_gives {F = nothing}))
      (when_gives _ _ (case_gives _ _ (λ y h. tt) (any_gives {F = integer_of}))
      (when_gives _ _ (case_gives _ _ (λ y h. h) text_gives)
      (when_gives _ _ (case_gives _ _ (λ y h. h) (reference_gives R.sorts (1 ∷ 2 ∷ 4 ∷ [])))
      (when_gives _ _ (case_gives _ _ (λ y h. h.0) (named_gives a_function))
      (when_gives _ _ (case_gives _ _ (λ y h. h.0) (named_gives a_table))
      (when_gives _ _ (case_gives _ _ (λ y h. h.0) (named_gives a_coroutine))
      (when_gives _ _ (case_gives _ _ (λ y h. tt) (any_gives {F = nothing}))
      (wrong_gives _ _))))))))))

  pub item_gives : Gives (item_format R) (ItemRead R)
  unfolding item_format
  item_gives = tagged_gives _ body_gives

  only_gives : (ok : Item → Bool) → Gives (only R ok) (λ i. (ok i ≡ true) × ItemRead R i)
  unfolding only
  only_gives ok = tested_gives _ _ item_gives

  row_gives : (seen : List Item) → Gives (row_after R seen) (λ row. ((is_new_key R seen row.0 ≡ true) × ItemRead R row.0) × ItemRead R row.1)
  unfolding row_after
  row_gives seen = followed_gives (only_gives (is_new_key R seen)) (λ _. item_gives)

  rows_given : (n : ℕ) (seen : List Item) (met more : ℕ) (rows : List (Item × Item)) (bytes rest : List ℕ) → scan_rows R n seen met bytes ≡ read rows more rest → All (RowRead R) rows
  rows_given zero seen met more rows bytes rest e = subst (All (RowRead R)) (read_so e) tt
  rows_given (suc n) seen met more rows bytes rest e =
      let h = halves _ (λ row m rest. and_then (scan_rows R n (row.0 ∷ seen) m rest) (λ rows k left. read (row ∷ rows) k left)) rows more rest e in
      let k = halves _ (λ rows k left. read (h.0 ∷ rows) k left) rows more rest h.4 in
      let r = (row_gives seen).gives met h.1 h.0 bytes h.2 h.3 in
      subst (All (RowRead R)) (read_so k.4) ((r.0.1, r.1), rows_given n (h.0.0 ∷ seen) h.1 k.1 k.0 h.2 k.2 k.3)

  rows_gives : (n : ℕ) → Gives (rows_format R n) (All (RowRead R))
  unfolding rows_format
  rows_gives n = record { gives = rows_given n [] }

  pub table_gives : Gives (table_format R) (RecordRead R)
  unfolding table_format
  table_gives = case_gives _ _ (λ y h. (h.0.1, h.1.1)) (followed_gives (followed_gives (any_gives {F = word}) rows_gives) (λ _. only_gives (is_table_or_nil R)))

  code_gives : Gives (code_format R) (λ p. R.is_checked p ≡ true)
  unfolding code_format
  code_gives = record {
    gives = λ met more x bytes rest e.
        let h = halves _ (λ s m rest. code_read R (chunk.read_whole s) m rest) x more rest e in
        by_reading (chunk.read_whole h.0) h.1 h.2 x more rest h.4;
  }
    where
      by_left : (p : Prototype) (left : List ℕ) (m : ℕ) (behind : List ℕ) (x : Prototype) (more : ℕ) (rest : List ℕ) (b : Bool) → R.is_checked p ≡ b → code_told R b p left m behind ≡ read x more rest → R.is_checked x ≡ true
      by_left p [] m behind x more rest true t e = subst (λ p. R.is_checked p ≡ true) (read_so e) t
      by_left p (b ∷ left) m behind x more rest true t e = absurd (cc)
      by_left p [] m behind x more rest false t e = absurd (cc)
      by_left p (b ∷ left) m behind x more rest false t e = absurd (cc)

      by_reading : (g : chunk.Got Prototype) (m : ℕ) (behind : List ℕ) (x : Prototype) (more : ℕ) (rest : List ℕ) → code_read R g m behind ≡ read x more rest → R.is_checked x ≡ true
      by_reading (chunk.read p left) m behind x more rest e = by_left p left m behind x more rest (R.is_checked p) refl e
      by_reading (chunk.refused kind) m behind x more rest e = absurd (cc)

  pub function_gives : Gives (function_format R) (RecordRead R)
  unfolding function_format
  function_gives = case_gives _ _ (λ y h. (h.0, equal_true _ _ h.1.0.0 ∙ h.1.1.0, h.1.1.1)) (followed_gives code_gives (λ p. followed_gives (tested_gives _ _ (any_gives {F = byte})) (λ n. times_gives n (reference_gives R.sorts (3 ∷ [])))))

  pub cell_gives : Gives (cell_format R) (RecordRead R)
  unfolding cell_format
  cell_gives = tagged_gives _ (λ t.
      when_gives _ _ (case_gives _ _ (λ y h. h) item_gives)
      (when_gives _ _ (case_gives _ _ (λ y h. h.0) (followed_gives (reference_gives R.sorts (4 ∷ [])) (λ _. any_gives)))
      (wrong_gives _ _)))

  plain_wait_gives : (w : Wait Item) → WaitRead R w → Gives (plain_wait R w) (WaitRead R)
  unfolding plain_wait
  plain_wait_gives w h = case_gives _ _ (λ y k. h) (any_gives {F = nothing})

  wait_gives : (t : ℕ) → Gives (wait_rest R t) (WaitRead R)
  unfolding wait_rest
  wait_gives t =
      when_gives _ _ (plain_wait_gives for_call tt) (when_gives _ _ (plain_wait_gives for_iterator tt) (when_gives _ _ (plain_wait_gives for_value tt) (when_gives _ _ (plain_wait_gives for_truth tt) (when_gives _ _ (plain_wait_gives dropped tt)
      (when_gives _ _ (case_gives _ _ (λ y h. tt) (any_gives {F = byte})) (when_gives _ _ (plain_wait_gives for_close tt) (when_gives _ _ (case_gives _ _ (λ y h. tt) (any_gives {F = word})) (when_gives _ _ (case_gives _ _ (λ y h. h) item_gives) (wrong_gives _ _)))))))))

  list_gives : {A : Type 0} {F : Format A} {P : A → Type 0} → Gives F P → Gives (list F) (All P)
  unfolding list list_by
  list_gives f = case_gives _ _ (λ y h. h.1.1) (followed_gives (any_gives {F = word}) (λ n. times_gives n f))

  lua_gives : Gives (lua_format R) (LuaRead R)
  unfolding lua_format
  lua_gives = case_gives _ _ (λ y h. record { is_function = h.0.0; function = h.0.1; varargs = h.1.1.1.0; registers = h.1.1.1.1.0; opened = refl; error = h.1.1.1.1.1.1 })
      (followed_gives (only_gives (is_function_item R)) (λ _. followed_gives (any_gives {F = word}) (λ _. followed_gives (tested_gives _ _ (any_gives {F = byte})) (λ t.
      followed_gives (list_gives item_gives) (λ _. followed_gives (list_gives item_gives) (λ _. followed_gives (any_gives {F = list word}) (λ _. wait_gives t)))))))

  error_gives : Gives (error_format R) (ErrorRead R)
  unfolding error_format
  error_gives = tagged_gives _ (λ t. when_gives _ _ (case_gives _ _ (λ y h. tt) (any_gives {F = nothing})) (when_gives _ _ (case_gives _ _ (λ y h. h) item_gives) (wrong_gives _ _)))

  frame_gives : Gives (frame_format R) (FrameRead R)
  unfolding frame_format
  frame_gives = tagged_gives _ (λ t.
      when_gives _ _ (case_gives _ _ (λ y h. h) lua_gives)
      (when_gives _ _ (case_gives _ _ (λ y h. tt) (any_gives {F = nothing}))
      (when_gives _ _ (case_gives _ _ (λ y h. h) item_gives)
      (when_gives _ _ (case_gives _ _ (λ y h. tt) (any_gives {F = nothing}))
      (when_gives _ _ (case_gives _ _ (λ y h. h) (followed_gives error_gives (λ _. list_gives item_gives)))
      (wrong_gives _ _))))))

  frames_gives : Gives (list_by (tested (λ n. nat_le n 100000) (λ _. of_kind 4) word) (frame_format R)) (λ frames. All (FrameRead R) frames × (length frames ≤ 100000))
  unfolding list_by
  frames_gives = case_gives _ _ (λ y h. let a = at_most y.0 100000 h.0.0 in let b = h.1.0 in (h.1.1, omega (arith, a, b))) (followed_gives (tested_gives _ _ (any_gives {F = word})) (λ n. times_gives n frame_gives))

  -- a record of a sort
  abbrev OfSort : ℕ → Record → Type 0
  OfSort s r = (sort_byte r ≡ s) × RecordRead R r

  coroutine_gives : Gives (coroutine_format R) (OfSort 4)
  unfolding coroutine_format
  coroutine_gives = tagged_gives _ (λ t.
      when_gives _ _ (case_gives _ _ (λ y h. (refl, h)) (only_gives (is_function_item R)))
      (when_gives _ _ (case_gives _ _ (λ y h. (refl, h)) frames_gives)
      (when_gives _ _ (case_gives _ _ (λ y h. (refl, tt)) (any_gives {F = nothing}))
      (when_gives _ _ (case_gives _ _ (λ y h. (refl, h)) (followed_gives item_gives (λ _. list_gives item_gives)))
      (wrong_gives _ _)))))

  -- each format makes records of its own sort
  table_sorted : Gives (table_format R) (OfSort 1)
  unfolding table_format
  table_sorted = case_gives _ _ (λ y h. (refl, (h.0.1, h.1.1))) (followed_gives (followed_gives (any_gives {F = word}) rows_gives) (λ _. only_gives (is_table_or_nil R)))

  function_sorted : Gives (function_format R) (OfSort 2)
  unfolding function_format
  function_sorted = case_gives _ _ (λ y h. (refl, (h.0, equal_true _ _ h.1.0.0 ∙ h.1.1.0, h.1.1.1))) (followed_gives code_gives (λ p. followed_gives (tested_gives _ _ (any_gives {F = byte})) (λ n. times_gives n (reference_gives R.sorts (3 ∷ [])))))

  cell_sorted : Gives (cell_format R) (OfSort 3)
  unfolding cell_format
  cell_sorted = tagged_gives _ (λ t.
      when_gives _ _ (case_gives _ _ (λ y h. (refl, h)) item_gives)
      (when_gives _ _ (case_gives _ _ (λ y h. (refl, h.0)) (followed_gives (reference_gives R.sorts (4 ∷ [])) (λ _. any_gives)))
      (wrong_gives _ _)))

  sorted_so : (s k : ℕ) {F G : Format Record} → (nat_eq s k ≡ true → Gives F (OfSort s)) → Gives G (OfSort s) → Gives (when s k F G) (OfSort s)
  unfolding when
  sorted_so s k {F = F} {G = G} f g = go (nat_eq s k) refl
    where
      go : (b : Bool) → nat_eq s k ≡ b → Gives (cond b F G) (OfSort s)
      go true e = f e
      go false e = g

  at_sort : (s k : ℕ) {F : Format Record} → Gives F (OfSort k) → nat_eq s k ≡ true → Gives F (OfSort s)
  at_sort s k {F = F} f e = subst (λ n. Gives F (OfSort n)) (sym (equal_true s k e)) f

  record_gives : (s : ℕ) → Gives (record_format R s) (OfSort s)
  unfolding record_format
  record_gives s = sorted_so s 1 (at_sort s 1 table_sorted) (sorted_so s 2 (at_sort s 2 function_sorted) (sorted_so s 3 (at_sort s 3 cell_sorted) (sorted_so s 4 (at_sort s 4 coroutine_gives) (wrong_gives _ _))))

  records_given : (ss : List ℕ) (at met more : ℕ) (rs : List Record) (bytes rest : List ℕ) → scan_records R at ss met bytes ≡ read rs more rest → (map sort_byte rs ≡ ss) × All (RecordRead R) rs
  records_given [] at met more rs bytes rest e = subst (λ rs. (map sort_byte rs ≡ []) × All (RecordRead R) rs) (read_so e) (refl, tt)
  records_given (s ∷ ss) at met more rs bytes rest e = go (Rattle.std.specs.Prelude.nat_lt at met) e (λ m more rs bytes rest e. records_given ss (suc at) m more rs bytes rest e)
    where
      go : (b : Bool) → cond b (and_then ((record_format R s).scan met bytes) (λ r m rest. and_then (scan_records R (suc at) ss m rest) (λ rs k left. read (r ∷ rs) k left))) (refused (of_kind 4)) ≡ read rs more rest
          → ((m more : ℕ) (rs : List Record) (bytes rest : List ℕ) → scan_records R (suc at) ss m bytes ≡ read rs more rest → (map sort_byte rs ≡ ss) × All (RecordRead R) rs) → (map sort_byte rs ≡ s ∷ ss) × All (RecordRead R) rs
      go false e again = absurd (cc)
      go true e again =
          let h = halves _ (λ r m rest. and_then (scan_records R (suc at) ss m rest) (λ rs k left. read (r ∷ rs) k left)) rs more rest e in
          let k = halves _ (λ rs k left. read (h.0 ∷ rs) k left) rs more rest h.4 in
          let r = (record_gives s).gives met h.1 h.0 bytes h.2 h.3 in
          let a = again h.1 k.1 k.0 h.2 k.2 k.3 in
          subst (λ rs. (map sort_byte rs ≡ s ∷ ss) × All (RecordRead R) rs) (read_so k.4) (rw (r.0, a.0) refl, (r.1, a.1))

  records_gives : Gives (records_format R) (λ rs. (map sort_byte rs ≡ R.sorts) × All (RecordRead R) rs)
  unfolding records_format
  records_gives = record { gives = records_given R.sorts 0 }

-- what is known of the parts
abbrev PartsRead : Reader → ℕ → ImageParts → Type 0
PartsRead R n y = (n ≡ length y.1.1.1.1.1.1.0.1) × All (ItemRead (with_sorts R y.1.1.1.1.1.0)) y.1.1.1.1.1.1.0.1 × (map sort_byte y.1.1.1.1.1.1.1 ≡ y.1.1.1.1.1.0) × All (RecordRead (with_sorts R y.1.1.1.1.1.0)) y.1.1.1.1.1.1.1

made_right : (R : Reader) (n : ℕ) (y : ImageParts) → PartsRead R n y → ImageRead R n (image_made y)
made_right R n y h = record {
  root_count = h.0;
  roots_read = subst (λ sorts. All (ItemRead (with_sorts R sorts)) y.1.1.1.1.1.1.0.1) (sym h.2) h.1;
  records_read = subst (λ sorts. All (RecordRead (with_sorts R sorts)) y.1.1.1.1.1.1.1) (sym h.2) h.3;
}

exactly_gives : (n kind : ℕ) → Gives (exactly n kind) (λ m. nat_eq n m ≡ true)
unfolding exactly
exactly_gives n kind = record { gives = λ met more x bytes rest e. ((tested_gives (nat_eq n) (λ _. of_kind kind) {P = λ _. Unit {0}} (any_gives {F = byte})).gives met more x bytes rest e).0 }

image_gives : (R : Reader) (n : ℕ) → Gives (image_format R n) (ImageRead R n)
unfolding image_format
image_gives R n = case_gives _ _ (λ y h. made_right R n y (equal_true n _ h.1.1.1.1.1.1.0.0 ∙ h.1.1.1.1.1.1.0.1.0, h.1.1.1.1.1.1.0.1.1, h.1.1.1.1.1.1.1.0, h.1.1.1.1.1.1.1.1))
    (followed_gives (any_gives {F = exactly 76 1}) (λ _. followed_gives (any_gives {F = exactly 85 1}) (λ _. followed_gives (any_gives {F = exactly 73 1}) (λ _. followed_gives (any_gives {F = exactly 77 1}) (λ _. followed_gives (any_gives {F = exactly 1 2}) (λ _.
    followed_gives (any_gives {F = sorts_format}) (λ sorts.
    followed_gives (followed_gives (exactly_gives n 4) (λ m. times_gives m (item_gives (with_sorts R sorts)))) (λ _.
    records_gives (with_sorts R sorts)))))))))

pub read_images_right : ReadImagesRight
read_images_right R n met I bytes e = at_end ((image_format R n).scan 0 bytes) refl e
  where
    at_end : (g : Got Image) → (image_format R n).scan 0 bytes ≡ g → whole g ≡ read I met [] → ImageRead R n I
    at_end (read J m []) f e = subst (ImageRead R n) (read_so e) ((image_gives R n).gives 0 m J bytes [] f)
    at_end (read J m (b ∷ rest)) f e = absurd (cc)
    at_end (refused fault) f e = absurd (cc)

pub numbers_name_records : NumbersNameRecords
numbers_name_records [] n h = absurd (cc)
numbers_name_records (r ∷ rs) zero h = by_record r h
  where
    by_record : (r : Record) → list_any (nat_eq (sort_byte r)) (1 ∷ 2 ∷ 4 ∷ []) ≡ true → (x : Record) × (kind : Kind) × (Some r ≡ Some x) × (kind_in x ≡ Some kind)
    by_record (table_record rows m) h = (table_record rows m, a_table, refl, refl)
    by_record (function_record c cs) h = (function_record c cs, a_function, refl, refl)
    by_record (closed_record i) h = absurd (cc)
    by_record (open_record a b c) h = absurd (cc)
    by_record (fresh_record i) h = (fresh_record i, a_coroutine, refl, refl)
    by_record (suspended_record fs) h = (suspended_record fs, a_coroutine, refl, refl)
    by_record dead_record h = (dead_record, a_coroutine, refl, refl)
    by_record (failed_record e vs) h = (failed_record e vs, a_coroutine, refl, refl)
    by_record no_record h = absurd (cc)
numbers_name_records (r ∷ rs) (suc n) h = numbers_name_records rs n h
