-- What rows on values and tables write out is right.
use Rattle.std.proofs.Common.{ℕ, zero, suc, ◌-◌, List, [], ◌∷◌, ◌++◌, refl, sym, ◌≡◌, ◌∙◌, map, length, Option, Some, None, Bool, true, false, Result, Ok, Err}
use Rattle.std.specs.Prelude.{ℤ, pos, negsuc, cond, nat_lt, nat_le, IsTrue, codes}
use Rattle.std.specs.List.{list_all}
use Rattle.int_core.specs.Operations.{type_name}
use Rattle.int_core.specs.Value.{Plain, nil, boolean, integer, string, primitive, a_table, a_function, a_coroutine, Shape, is_known, is_object, holds, greatest_string}
use Rattle.lua_pattern.specs.declared.answer.Capture.{Capture}
use Rattle.lua_pattern.specs.declared.answer.Capture.TheVariants.{Text, Position}
use Rattle.library_rows.specs.Look.{read, written, look, Look, gives, gives_all, refuses, raises, count, does}
use Rattle.library_rows.specs.Plainly.{too_large, fits_length, told_as, sees}
use Rattle.library_rows.specs.Arguments.{argument, bad_argument, wrong_type, plain_of, is_absent, is_table, integer_argument, text_argument, with, with_look, one}
use Rattle.library_rows.specs.Base
use Rattle.library_rows.specs.Searches
use Rattle.machine_sound.specs.Safe.{WrittenOk, ArgsOk, LookOk}
use Rattle.machine_sound.proofs.Values.{le_of, both_of}

-- values written out

abbrev AllOk : List Plain → Type 0
AllOk [] = Unit {0}
AllOk (p ∷ ps) = WrittenOk p × AllOk ps

abbrev IsNone : Plain → Type 0
IsNone (primitive n) = ⊥
IsNone _ = Unit {0}

abbrev NoneIs : List Plain → Type 0
NoneIs [] = Unit {0}
NoneIs (p ∷ ps) = IsNone p × NoneIs ps

fits_ok : (p : Plain) → IsNone p → IsTrue (fits_length p) → WrittenOk p
fits_ok (string s) i h = le_of (length s) greatest_string h
fits_ok (primitive n) i h = absurd i
fits_ok _ i h = tt

all_fit : (ps : List Plain) → NoneIs ps → IsTrue (list_all fits_length ps) → AllOk ps
all_fit [] i h = tt
all_fit (p ∷ ps) i h = let b = both_of (fits_length p) (list_all fits_length ps) h in (fits_ok p i.0 b.0, all_fit ps i.1 b.1)

args_ok : (ps : List Plain) → AllOk ps → ArgsOk (map written ps)
args_ok [] h = tt
args_ok (p ∷ ps) h = (h.0, args_ok ps h.1)

-- rows of parts

pick : (b : Bool) (x y : Look) → LookOk x → LookOk y → LookOk (elim b as (λ _. Look) [ true ↦ x | false ↦ y ])
pick true x y p q = p
pick false x y p q = q

if_fit_ok : (ps : List Plain) (k : Look) → (IsTrue (list_all fits_length ps) → LookOk k) → LookOk (Searches.if_fit ps k)
if_fit_ok ps k h = by (list_all fits_length ps) refl
  where
    by : (b : Bool) → list_all fits_length ps ≡ b → LookOk (elim b as (λ _. Look) [ true ↦ k | false ↦ refuses too_large ])
    by true e = h e
    by false e = tt

text_ok : (s : List ℕ) → LookOk (told_as (one (string s)))
text_ok s = by (list_all fits_length (string s ∷ [])) refl
  where
    by : (b : Bool) → list_all fits_length (string s ∷ []) ≡ b → LookOk (cond b (gives (map written (string s ∷ []))) (refuses too_large))
    by true e = args_ok (string s ∷ []) (all_fit (string s ∷ []) (tt, tt) e)
    by false e = tt

told_text : (r : Result (List ℕ) (List ℕ)) → LookOk (told_as (with r (λ text. one (string text))))
told_text (Ok s) = text_ok s
told_text (Err text) = tt

with_ok : {A : Type 0} (r : Result A (List ℕ)) (k : A → Look) → ((x : A) → LookOk (k x)) → LookOk (with_look r k)
with_ok (Ok x) k h = h x
with_ok (Err text) k h = tt

table_ok : (f : List ℕ) (k : Look) → LookOk k → LookOk (Base.on_table f k)
table_ok f k h = ((tt, tt), λ s. pick (is_table s) k (refuses (wrong_type 1 f (codes "table") s)) h tt)

number_ok : (f : List ℕ) (k : ℕ → Look) → ((n : ℕ) → LookOk (k n)) → LookOk (Base.with_number f k)
number_ok f k h = table_ok f _ ((tt, tt), λ s. with_ok (integer_argument f 2 s) (λ many. k (Searches.natural many)) (λ m. h (Searches.natural m)))

reads_ok : (many i slot : ℕ) (k : Look) → LookOk k → LookOk (Base.reads many i slot k)
reads_ok zero i slot k h = h
reads_ok (suc many) i slot k h = ((tt, (tt, tt)), λ _. reads_ok many (suc i) (suc slot) k h)

shapes_ok : (many i slot : ℕ) (k : List Shape → Look) → ((ss : List Shape) → LookOk (k ss)) → LookOk (Base.reads_shapes many i slot k)
shapes_ok zero i slot k h = h []
shapes_ok (suc many) i slot k h = ((tt, (tt, tt)), λ _. ((tt, tt), λ s. shapes_ok many (suc i) (suc slot) (λ ss. k (s ∷ ss)) (λ ss. h (s ∷ ss))))

sees_ok : (many at : ℕ) (k : List Shape → Look) → ((ss : List Shape) → LookOk (k ss)) → LookOk (sees many at k)
sees_ok zero at k h = h []
sees_ok (suc many) at k h = ((tt, tt), λ s. sees_ok many (suc at) (λ ss. k (s ∷ ss)) (λ ss. h (s ∷ ss)))

newest_ok : (n : ℕ) → ArgsOk (Base.newest n)
newest_ok zero = tt
newest_ok (suc n) = (tt, newest_ok n)

abbrev RowsOk : List (Plain × Plain) → Type 0
RowsOk [] = Unit {0}
RowsOk (row ∷ rows) = WrittenOk row.0 × WrittenOk row.1 × RowsOk rows

writes_ok : (rows : List (Plain × Plain)) (k : Look) → RowsOk rows → LookOk k → LookOk (Searches.writes rows k)
writes_ok [] k r h = h
writes_ok (row ∷ rows) k r h = ((tt, (r.0, (r.1, tt))), λ _. writes_ok rows k r.2 h)

name_fits : (text : List ℕ) → IsTrue (nat_le (length text) greatest_string) → WrittenOk (string text)
name_fits text h = le_of (length text) greatest_string h

-- the base library and tables

pub asserts_ok : LookOk Base.asserts
asserts_ok = (
  (tt, tt),
  λ s. pick (holds s) (gives_all [] 0) (does look (read 1 ∷ []) (λ m. elim (is_absent m) as (λ _. Look) [ true ↦ raises (written (string (codes "assertion failed!"))) | false ↦ raises (read 1) ])) tt
      ((tt, tt), λ m. pick (is_absent m) (raises (written (string (codes "assertion failed!")))) (raises (read 1)) (name_fits (codes "assertion failed!") refl) tt),
)

pub collects_ok : LookOk Base.collects_garbage
collects_ok = (tt, tt)

pub types_ok : LookOk Base.types
types_ok = ((tt, tt), λ s. (by s, tt))
  where
    by : (s : Shape) → WrittenOk (string (type_name s))
    by (is_known nil) = le_of _ greatest_string refl
    by (is_known (boolean b)) = le_of _ greatest_string refl
    by (is_known (integer n)) = le_of _ greatest_string refl
    by (is_known (string text)) = le_of _ greatest_string refl
    by (is_known (primitive n)) = le_of _ greatest_string refl
    by (is_object a_table) = le_of _ greatest_string refl
    by (is_object a_function) = le_of _ greatest_string refl
    by (is_object a_coroutine) = le_of _ greatest_string refl

pub raw_get_ok : LookOk Base.raw_get
raw_get_ok = table_ok (codes "rawget") _ ((tt, (tt, tt)), λ _. (tt, tt))

pub raw_set_ok : LookOk Base.raw_set
raw_set_ok = table_ok (codes "rawset") _ ((tt, tt), λ key. pick (is_absent key) (refuses (codes "table index is nil")) _ tt ((tt, (tt, (tt, tt))), λ _. (tt, tt)))

meta_name : WrittenOk (string (codes "__metatable"))
meta_name = le_of _ greatest_string refl

pub gets_metatable_ok : LookOk Base.gets_metatable
gets_metatable_ok = ((tt, tt), λ _. ((tt, (meta_name, tt)), λ _. ((tt, tt), λ s. pick (is_absent s) (gives (read 1 ∷ [])) (gives (read 0 ∷ [])) (tt, tt) (tt, tt))))

pub sets_metatable_ok : LookOk Base.sets_metatable
sets_metatable_ok = table_ok (codes "setmetatable") _ (
  (tt, tt),
  λ m. pick (Base.is_table_or_nil m) _ (refuses (wrong_type 2 (codes "setmetatable") (codes "nil or table") m))
      ((tt, tt), λ _. ((tt, (meta_name, tt)), λ _. ((tt, tt), λ s. pick (is_absent s) _ (refuses (codes "cannot change a protected metatable")) ((tt, (tt, tt)), λ _. (tt, tt)) tt))) tt,
)

pub next_ok : LookOk Base.next_of
next_ok = table_ok (codes "next") _ ((tt, (tt, tt)), λ s. by s)
  where
    by : (s : Shape) → LookOk (Base.next_row s)
    by (is_known (boolean true)) = (tt, (tt, tt))
    by (is_known (boolean false)) = (tt, tt)
    by (is_known nil) = tt
    by _ = tt

pub selects_ok : LookOk Base.selects
selects_ok = (
  (tt, tt),
  λ s. pick (Base.is_count s) (count 1 (λ many. gives (written (integer (pos many)) ∷ []))) (with_look (integer_argument (codes "select") 1 s) Base.selected) (λ many. (tt, tt))
      (with_ok (integer_argument (codes "select") 1 s) Base.selected by),
)
  where
    by : (z : ℤ) → LookOk (Base.selected z)
    by (pos zero) = tt
    by (pos (suc n)) = tt
    by (negsuc n) = λ many. pick (nat_lt n many) (gives_all [] (many - n)) Base.out_of_range tt tt

packs_from_ok : (i many : ℕ) (k : Look) → LookOk k → LookOk (Base.packs_from i many k)
packs_from_ok i zero k h = h
packs_from_ok i (suc many) k h = ((tt, (tt, (tt, tt))), λ _. packs_from_ok (suc i) many k h)

pub packs_ok : LookOk Base.packs
packs_ok = λ many. (tt, λ _. packs_from_ok 1 many _ (writes_ok ((string (codes "n"), integer (pos many)) ∷ []) (gives (read 0 ∷ [])) (le_of _ greatest_string refl, tt, tt) (tt, tt)))

-- sorting

put_ok : (p : Plain) (ps : List Plain) → WrittenOk p → AllOk ps → AllOk (Base.put_in_order p ps)
put_ok p [] h k = (h, tt)
put_ok p (q ∷ qs) h k = either (Base.in_order p q) (p ∷ q ∷ qs) (q ∷ Base.put_in_order p qs) (h, k) (k.0, put_ok p qs h k.1)
  where
    either : (b : Bool) (xs ys : List Plain) → AllOk xs → AllOk ys → AllOk (elim b as (λ _. List Plain) [ true ↦ xs | false ↦ ys ])
    either true xs ys x y = x
    either false xs ys x y = y

sorted_ok : (ps : List Plain) → AllOk ps → AllOk (Base.sorted ps)
sorted_ok [] h = tt
sorted_ok (p ∷ ps) h = put_ok p (Base.sorted ps) h.0 (sorted_ok ps h.1)

writes_sorted_ok : (slot i : ℕ) (ps : List Plain) → AllOk ps → LookOk (Base.writes_sorted slot i ps)
writes_sorted_ok slot i [] h = tt
writes_sorted_ok slot i (p ∷ ps) h = ((tt, (tt, (h.0, tt))), λ _. writes_sorted_ok slot (suc i) ps h.1)

-- where a test holds of no primitive, all of which it holds are plain
tested_none : (test : Shape → Bool) → ((n : ℕ) → test (is_known (primitive n)) ≡ false) → (ss : List Shape) → IsTrue (list_all test ss) → NoneIs (map plain_of ss)
tested_none test never [] h = tt
tested_none test never (s ∷ ss) h = let b = both_of (test s) (list_all test ss) h in (by s b.0, tested_none test never ss b.1)
  where
    by : (s : Shape) → IsTrue (test s) → IsNone (plain_of s)
    by (is_known nil) e = tt
    by (is_known (boolean b)) e = tt
    by (is_known (integer n)) e = tt
    by (is_known (string text)) e = tt
    by (is_known (primitive n)) e = let f : false ≡ true = sym (never n) ∙ e in absurd (cc)
    by (is_object kind) e = tt

sorts_shapes_ok : (ss : List Shape) → LookOk (Base.sorts_shapes ss)
sorts_shapes_ok ss = by (Base.can_be_sorted ss) (λ e. none (list_all Base.is_integer ss) refl e)
  where
    none : (b : Bool) → list_all Base.is_integer ss ≡ b → elim b as (λ _. Bool) [ true ↦ true | false ↦ list_all Base.is_string ss ] ≡ true → NoneIs (map plain_of ss)
    none true i e = tested_none Base.is_integer (λ n. refl) ss i
    none false i e = tested_none Base.is_string (λ n. refl) ss e

    by : (b : Bool) → (b ≡ true → NoneIs (map plain_of ss)) → LookOk (elim b as (λ _. Look) [
      | false ↦ refuses (bad_argument 1 (codes "sort") (codes "sort takes only integers or only strings"))
      | true ↦ Searches.if_fit (map plain_of ss) (Base.writes_sorted (length ss) 1 (Base.sorted (map plain_of ss)))
    ])
    by false k = tt
    by true k = if_fit_ok (map plain_of ss) _ (λ f. writes_sorted_ok (length ss) 1 (Base.sorted (map plain_of ss)) (sorted_ok (map plain_of ss) (all_fit (map plain_of ss) (k refl) f)))

pub sorts_ok : LookOk Base.sorts
sorts_ok = table_ok (codes "sort") _ (
  (tt, tt),
  λ f. pick (is_absent f) _ (refuses (bad_argument 2 (codes "sort") (codes "comparator not supported")))
      ((tt, tt), λ border. shapes_ok (Base.told_number border) 1 0 Base.sorts_shapes sorts_shapes_ok) tt,
)

-- the prelude's own

pub meta_field_ok : LookOk Base.meta_field
meta_field_ok = ((tt, tt), λ _. ((tt, (tt, tt)), λ _. (tt, tt)))

pub texts_ok : LookOk Base.texts
texts_ok = ((tt, tt), by)
  where
    by : (s : Shape) → LookOk (Base.text_of_shape s)
    by (is_known p) = text_ok (Base.plain_text p)
    by (is_object kind) = ((tt, tt), λ _. ((tt, (le_of _ greatest_string refl, tt)), λ _. ((tt, tt), λ name. text_ok (Base.kind_text (is_object kind) name))))

pub spreads_ok : LookOk Base.spreads
spreads_ok = number_ok (codes "spread") _ (λ many. reads_ok many 1 0 (gives (Base.newest many)) (newest_ok many))

pub joins_ok : LookOk Base.joins
joins_ok = number_ok (codes "join") _ (λ many. shapes_ok many 1 0 (λ ss. told_as (Base.joined ss)) (λ ss. told_text (Base.joined_text ss greatest_string)))

capture_none : (s : List ℕ) (c : Capture) → IsNone (Searches.capture_value s c)
capture_none s (Text start end) = tt
capture_none s (Position at) = tt

captures_none : (s : List ℕ) (cs : List Capture) → NoneIs (map (Searches.capture_value s) cs)
captures_none s [] = tt
captures_none s (c ∷ cs) = (capture_none s c, captures_none s cs)

or_whole_none : (s : List ℕ) (hit : Searches.Hit) (ps : List Plain) → NoneIs ps → NoneIs (elim ps as (λ _. List Plain) [ [] ↦ Searches.whole s hit ∷ [] | p ∷ ps ↦ p ∷ ps ])
or_whole_none s hit [] h = (tt, tt)
or_whole_none s hit (p ∷ ps) h = h

numbered_ok : (i : ℕ) (ps : List Plain) (more : List (Plain × Plain)) → AllOk ps → RowsOk more → RowsOk (Searches.numbered i ps ++ more)
numbered_ok i [] more h k = k
numbered_ok i (p ∷ ps) more h k = (tt, h.0, numbered_ok (suc i) ps more h.1 k)

hit_ok : (s : List ℕ) (r : Result (Option Searches.Hit) (List ℕ)) → LookOk (Searches.gives_hit s r)
hit_ok s (Err text) = tt
hit_ok s (Ok None) = tt
hit_ok s (Ok (Some hit)) =
    let ps = Searches.captured_or_whole s hit in
    let none : NoneIs (Searches.whole s hit ∷ ps) = (tt, or_whole_none s hit (Searches.captured s hit) (captures_none s hit.captures)) in
    if_fit_ok (Searches.whole s hit ∷ ps) _ (λ f.
    let ok = all_fit (Searches.whole s hit ∷ ps) none f in
    (tt, λ _. writes_ok (Searches.match_rows (Searches.whole s hit) ps) _ (tt, ok.0, numbered_ok 1 ps ((string (codes "n"), integer (pos (length ps))) ∷ []) ok.1 (le_of _ greatest_string refl, tt, tt)) (tt, (tt, (tt, tt)))))

pub seek_ok : LookOk Base.seek
seek_ok = sees_ok 5 0 Searches.seeks (λ ss.
    with_ok (text_argument (codes "seek") 1 (argument ss 1)) _ (λ s. with_ok (text_argument (codes "seek") 2 (argument ss 2)) _ (λ p.
    with_ok (integer_argument (codes "seek") 3 (argument ss 3)) _ (λ at. with_ok (integer_argument (codes "seek") 4 (argument ss 4)) _ (λ last.
    hit_ok s (Searches.next_hit s p (Searches.natural at - 1) (Searches.natural last) (holds (argument ss 5))))))))

pub expand_ok : LookOk Base.expand
expand_ok = (
  (tt, tt),
  λ r. with_ok (text_argument (codes "expand") 1 r) _ (λ text. (
    (tt, tt),
    λ c.
        pick (is_table c) (Base.reads_shapes 10 0 1 (λ ss. told_as (Searches.expansion text ss))) (refuses (wrong_type 2 (codes "expand") (codes "table") c))
        (shapes_ok 10 0 1 (λ ss. told_as (Searches.expansion text ss)) (λ ss. told_text (Searches.expanded ss false text greatest_string))) tt,
  )),
)
