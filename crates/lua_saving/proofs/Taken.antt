-- Values that are the roots of a session.
use Rattle.std.proofs.Common.{arith, ℕ, suc, ◌≡◌, ◌<◌, true, false, List, [], ◌∷◌, Option, Some, None, refl, subst, sym, ◌∙◌, ap, map, length, get_or}
use Rattle.std.specs.Prelude.{ℤ, slice_get, option_map}
use Rattle.int_core.specs.Value.{known, object, integer, string, a_table, a_coroutine}
use Rattle.list_laws.proofs.Items.{some_same}
use Rattle.machine_core.specs.World.{Frame, suspended, World}
use Rattle.machine_sound.proofs.Lists.{bind_some, get_map}
use Rattle.table_core.specs.declared.value.TableId.{TableId}
use Rattle.table_core.specs.declared.value.Value.{Value as Kept}
use Rattle.table_core.specs.declared.value.Value.TheVariants.{Nil, Int, Str, Table, Coro}
use Rattle.lua_heap.specs.declared.world.Coro.{Coro as Kept_coroutine}
use Rattle.lua_heap.specs.declared.world.Coro.TheVariants.{Suspended}
use Rattle.lua_heap.specs.declared.world.World.{World as Memory}
use Rattle.lua_heap.specs.Plain.{plain, coroutine}
use Rattle.lua_heap.specs.Reading.{text_of, value}
use Rattle.lua_stack.specs.Frames.{frames}
use Rattle.image_load.specs.Session.{with_roots}
use Rattle.lua_saving.specs.declared.roots.Roots.{Roots}
use Rattle.lua_saving.specs.Roots.{metatable_of, roots_with, roots_of_five, has_yielded}
use Rattle.lua_saving.specs.Saving.{AreThere, HasYielded, TakesRoots, IsNoSession}

-- what the values are

record AreFive (a b c d e : Kept) (r : Roots) : Type 0 where
  main : a ≡ Coro r.main
  globals : b ≡ Table r.globals
  metatable : metatable_of c ≡ Some r.string_meta
  key : d ≡ Str r.spkey
  depth : e ≡ Int r.maxrec

five_with : (a b c d e : Kept) (m : Option TableId) (r : Roots) → metatable_of c ≡ Some m → roots_with m a b d e ≡ Some r → AreFive a b c d e r
five_with (Coro co) (Table g) c (Str k) (Int n) m r is h =
    let same = some_same (record { main = co; globals = g; string_meta = m; spkey = k; maxrec = n }) r h in
    subst (AreFive (Coro co) (Table g) c (Str k) (Int n)) same (record { main = refl; globals = refl; metatable = is; key = refl; depth = refl })
five_with _ _ c _ _ m r is h = absurd (cc)

five : (a b c d e : Kept) (r : Roots) → roots_of_five a b c d e ≡ Some r → AreFive a b c d e r
five a b c d e r h = let m = bind_some _ (metatable_of c) r h in five_with a b c d e m.0 r m.1 m.2

-- the world with these roots
abbrev pub with_five : (texts : List (List ℕ)) → Roots → World → World
with_five texts r Y = record Y { main = Some r.main.0; globals = r.globals.0; heap = record Y.heap { string_metatable = option_map (λ (m : TableId). m.0) r.string_meta }; special_key = text_of texts r.spkey.0; max_depth = r.maxrec }

by_metatable : (texts : List (List ℕ)) (r : Roots) (Y : World) (c : Kept) → metatable_of c ≡ Some r.string_meta
    → with_roots (object a_coroutine r.main.0 ∷ object a_table r.globals.0 ∷ value texts c ∷ known (string (text_of texts r.spkey.0)) ∷ known (integer r.maxrec) ∷ []) Y ≡ Some (with_five texts r Y)
by_metatable texts r Y Nil h = ap (λ m. Some (record Y { main = Some r.main.0; globals = r.globals.0; heap = record Y.heap { string_metatable = option_map (λ (m : TableId). m.0) m }; special_key = text_of texts r.spkey.0; max_depth = r.maxrec })) (some_same None r.string_meta h)
by_metatable texts r Y (Table id) h = ap (λ m. Some (record Y { main = Some r.main.0; globals = r.globals.0; heap = record Y.heap { string_metatable = option_map (λ (m : TableId). m.0) m }; special_key = text_of texts r.spkey.0; max_depth = r.maxrec })) (some_same (Some id) r.string_meta h)
by_metatable texts r Y _ h = absurd (cc)

roots_are : (texts : List (List ℕ)) (a b c d e : Kept) (r : Roots) (Y : World) → roots_of_five a b c d e ≡ Some r → with_roots (map (value texts) (a ∷ b ∷ c ∷ d ∷ e ∷ [])) Y ≡ Some (with_five texts r Y)
roots_are texts a b c d e r Y h =
    let f = five a b c d e r h in
    rw (f.main, f.globals, f.key, f.depth) (by_metatable texts r Y c f.metatable)

-- of a list of five

pub items : (vs : List Kept) (none : Kept) → length vs ≡ 5 → vs ≡ get_or vs 0 none ∷ get_or vs 1 none ∷ get_or vs 2 none ∷ get_or vs 3 none ∷ get_or vs 4 none ∷ []
items (a ∷ b ∷ c ∷ d ∷ e ∷ []) none h = refl
items [] none h = absurd (omega (arith, h))
items (a ∷ []) none h = absurd (omega (arith, h))
items (a ∷ b ∷ []) none h = absurd (omega (arith, h))
items (a ∷ b ∷ c ∷ []) none h = absurd (omega (arith, h))
items (a ∷ b ∷ c ∷ d ∷ []) none h = absurd (omega (arith, h))
items (a ∷ b ∷ c ∷ d ∷ e ∷ f ∷ vs) none h = absurd (omega (arith, h))

abbrev pub roots_among : (vs : List Kept) (none : Kept) → Option Roots
roots_among vs none = roots_of_five (get_or vs 0 none) (get_or vs 1 none) (get_or vs 2 none) (get_or vs 3 none) (get_or vs 4 none)

pub roots_so : (texts : List (List ℕ)) (vs : List Kept) (none : Kept) (r : Roots) (Y : World) → length vs ≡ 5 → roots_among vs none ≡ Some r → with_roots (map (value texts) vs) Y ≡ Some (with_five texts r Y)
roots_so texts vs none r Y n h =
    subst (λ us. with_roots (map (value texts) us) Y ≡ Some (with_five texts r Y)) (sym (items vs none n))
    (roots_are texts (get_or vs 0 none) (get_or vs 1 none) (get_or vs 2 none) (get_or vs 3 none) (get_or vs 4 none) r Y h)

-- the main coroutine is there
pub main_there : (W : Memory) (vs : List Kept) (none : Kept) (r : Roots) → length vs ≡ 5 → roots_among vs none ≡ Some r → AreThere W vs → r.main.0 < length W.coros.objects
main_there W vs none r n h t =
    let f = five (get_or vs 0 none) (get_or vs 1 none) (get_or vs 2 none) (get_or vs 3 none) (get_or vs 4 none) r h in
    let first : slice_get (map (value W.strings) vs) 0 ≡ Some (object a_coroutine r.main.0) =
    ap (λ us. slice_get (map (value W.strings) us) 0) (items vs none n) ∙ ap (λ v. Some (value W.strings v)) f.main in
    let valid : r.main.0 < length (map (coroutine W.strings) W.coros.objects) = t.each 0 (object a_coroutine r.main.0) first in
    let same : length (map (coroutine W.strings) W.coros.objects) ≡ length W.coros.objects = length_map (coroutine W.strings) W.coros.objects in
    omega (arith, valid, same)
  where
    length_map : {A B : Type 0} (g : A → B) (xs : List A) → length (map g xs) ≡ length xs
    length_map g [] = refl
    length_map g (x ∷ xs) = ap suc (length_map g xs)

-- it is suspended, or is not

yielded : (W : Memory) (co : ℕ) (c : Kept_coroutine) → slice_get W.coros.objects co ≡ Some c → has_yielded c ≡ true → (frames : List Frame) × (slice_get (plain W 0).coroutines co ≡ Some (suspended frames))
yielded W co (Suspended stack) e h = (frames (value W.strings) stack, get_map (coroutine W.strings) W.coros.objects co (Suspended stack) e)
yielded W co _ e h = absurd (cc)

not_yielded : (texts : List (List ℕ)) (c : Kept_coroutine) (fs : List Frame) → has_yielded c ≡ false → coroutine texts c ≡ suspended fs → ⊥
not_yielded texts (Suspended stack) fs h e = absurd (cc)
not_yielded texts _ fs h e = absurd (cc)

pub none_waits : (W : Memory) (vs : List Kept) (none : Kept) (r : Roots) (c : Kept_coroutine) → length vs ≡ 5 → roots_among vs none ≡ Some r → slice_get W.coros.objects r.main.0 ≡ Some c → has_yielded c ≡ false → IsNoSession W vs
none_waits W vs none r c n h e waits_not = record { none = other }
  where
    other : (X : World) → with_roots (map (value W.strings) vs) (plain W 0) ≡ Some X → HasYielded X → ⊥
    other X is y =
        let same : with_five W.strings r (plain W 0) ≡ X = some_same (with_five W.strings r (plain W 0)) X (sym (roots_so W.strings vs none r (plain W 0) n h) ∙ is) in
        let co : r.main.0 ≡ y.main = some_same r.main.0 y.main (ap (λ (V : World). V.main) same ∙ y.is_main) in
        let there : slice_get (map (coroutine W.strings) W.coros.objects) r.main.0 ≡ Some (suspended y.frames) =
        ap (λ (V : World). slice_get V.coroutines r.main.0) same ∙ (ap (slice_get X.coroutines) co ∙ y.yielded) in
        let got : slice_get (map (coroutine W.strings) W.coros.objects) r.main.0 ≡ Some (coroutine W.strings c) = get_map (coroutine W.strings) W.coros.objects r.main.0 c e in
        not_yielded W.strings c y.frames waits_not (some_same (coroutine W.strings c) (suspended y.frames) (sym got ∙ there))

pub takes : (W : Memory) (vs : List Kept) (none : Kept) (r : Roots) (c : Kept_coroutine) (n : ℤ) → n ≡ r.maxrec → length vs ≡ 5 → roots_among vs none ≡ Some r → slice_get W.coros.objects r.main.0 ≡ Some c → has_yielded c ≡ true
    → TakesRoots W (record W { main = Some r.main; globals = r.globals; string_meta = r.string_meta; spkey = r.spkey; maxrec = n }) vs
takes W vs none r c n depth count h e waits =
    let y = yielded W r.main.0 c e waits in
    subst (λ n. TakesRoots W (record W { main = Some r.main; globals = r.globals; string_meta = r.string_meta; spkey = r.spkey; maxrec = n }) vs) (sym depth) (record {
      is = λ fuel. roots_so W.strings vs none r (plain W fuel) count h;
      rest = refl;
      waits = record { main = r.main.0; is_main = refl; frames = y.0; yielded = y.1 };
    })
