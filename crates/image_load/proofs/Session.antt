-- A session that was saved and loaded agrees with what it was, and goes on as it would have.
use Rattle.std.proofs.Common.{ℕ, ◌≡◌, List, [], ◌∷◌, map, Option, Some, None, refl, subst, sym, ◌∙◌}
use Rattle.std.specs.List.{AllZip}
use Rattle.int_core.specs.Value.{nil, integer, string, a_table, a_function, a_coroutine, Value, known, object}
use Rattle.machine_core.specs.World.{World}
use Rattle.machine_alike.specs.Agree.{Pairs, SameNumber, Each, SameValue, same_known, same_object, SameValues, SameRoots, roots_of, SameObjects, objects_of, Agree}
use Rattle.machine_alike.proofs.Pairwise.{zip_on}
use Rattle.machine_alike.proofs.Keeps.{steps_keep}
use Rattle.image_core.specs.Image.{Item}
use Rattle.image_core.specs.Records.{metatable_value, parts_in_order, image_by}
use Rattle.image_core.specs.Loading.{Target, value_made, loaded, loading}
use Rattle.image_load.specs.Session.{main_value, session_roots, with_roots, session_loaded, CanResume, SessionAgrees, SessionGoesOn, SessionSavedAgain}
use Rattle.image_same.proofs.Alike.{image_same}
use Rattle.image_load.proofs.Copies.{loaded_agrees}

-- five values that are the same as a session's roots are a session's roots
module _ (q : Pairs) (W Y : World) (objects : SameObjects q (objects_of W) (objects_of Y)) (idle : W.chain ≡ []) (other : Y.chain ≡ [])
    (env : SameNumber q a_table W.prelude_environment Y.prelude_environment) (functions : AllZip (SameNumber q a_function) W.prelude_functions Y.prelude_functions) where
  rooted : (main : ℕ) → W.main ≡ Some main → (vs : List Value) → SameValues q (object a_coroutine main ∷ object a_table W.globals ∷ metatable_value W.heap.string_metatable ∷ known (string W.special_key) ∷ known (integer W.max_depth) ∷ []) vs
      → (X : World) × (with_roots vs Y ≡ Some X) × Agree q W X
  rooted main is (a ∷ b ∷ c ∷ d ∷ e ∷ []) h = go a b c d e h.0 h.1.0 h.1.1.0 h.1.1.1.0 h.1.1.1.1.0
    where
      agreed : (co g : ℕ) → SameNumber q a_coroutine main co → SameNumber q a_table W.globals g → (t : Option ℕ) → Each (SameNumber q a_table) W.heap.string_metatable t
          → Agree q W (record Y { main = Some co; globals = g; heap = record Y.heap { string_metatable = t }; special_key = W.special_key; max_depth = W.max_depth })
      agreed co g m n t h = record {
        objects = objects;
        roots = record { globals = n; string_metatable = h; prelude_environment = env; prelude_functions = functions; special_key = refl; max_depth = refl; main = rw is m; chain = rw (idle, other) tt };
        moving = rw idle (λ r. absurd r);
      }

      by_meta : (co g : ℕ) → SameNumber q a_coroutine main co → SameNumber q a_table W.globals g → (o : Option ℕ) → W.heap.string_metatable ≡ o → (c : Value) → SameValue q (metatable_value o) c
          → (X : World) × (with_roots (object a_coroutine co ∷ object a_table g ∷ c ∷ known (string W.special_key) ∷ known (integer W.max_depth) ∷ []) Y ≡ Some X) × Agree q W X
      by_meta co g m n None k c (same_known _) = (_, refl, agreed co g m n None (rw k tt))
      by_meta co g m n (Some t) k c (same_object _ _ j h) = (_, refl, agreed co g m n (Some j) (rw k h))

      go : (a b c d e : Value) → SameValue q (object a_coroutine main) a → SameValue q (object a_table W.globals) b → SameValue q (metatable_value W.heap.string_metatable) c → SameValue q (known (string W.special_key)) d → SameValue q (known (integer W.max_depth)) e
          → (X : World) × (with_roots (a ∷ b ∷ c ∷ d ∷ e ∷ []) Y ≡ Some X) × Agree q W X
      go a b c d e (same_object _ _ co m) (same_object _ _ g n) h (same_known _) (same_known _) = by_meta co g m n W.heap.string_metatable refl c h
  rooted main is [] h = absurd h
  rooted main is (a ∷ []) h = absurd h.1
  rooted main is (a ∷ b ∷ []) h = absurd h.1.1
  rooted main is (a ∷ b ∷ c ∷ []) h = absurd h.1.1.1
  rooted main is (a ∷ b ∷ c ∷ d ∷ []) h = absurd h.1.1.1.1
  rooted main is (a ∷ b ∷ c ∷ d ∷ e ∷ f ∷ vs) h = absurd h.1.1.1.1.1

pub session_agrees : SessionAgrees
session_agrees base W V T name can =
    let l = loaded_agrees base W V T name (session_roots W) can.can_load in
    let q = loading base T (parts_in_order W name (session_roots W)) (image_by W name (session_roots W)).records in
    let I = image_by W name (session_roots W) in
    let r = rooted q W (loaded T I.records V) l.objects can.left_idle can.right_idle
    (l.more.objects a_table W.prelude_environment V.prelude_environment can.environments)
    (zip_on (SameNumber base a_function) (SameNumber q a_function) (l.more.objects a_function) W.prelude_functions V.prelude_functions can.functions)
    can.main can.is_main (map (value_made T I.records) I.roots)
    (subst (λ m. SameValues q (main_value m ∷ object a_table W.globals ∷ metatable_value W.heap.string_metatable ∷ known (string W.special_key) ∷ known (integer W.max_depth) ∷ []) (map (value_made T I.records) I.roots)) can.is_main l.roots_same) in
    record { world = r.0; is = r.1; agree = r.2 }

some_world : {x y : World} → Some x ≡ Some y → x ≡ y
some_world h = cc

loaded_same : (base : Pairs) (W V X : World) (T : Target) (name : Value → Option Item) → CanResume base W V T name → session_loaded T (image_by W name (session_roots W)) V ≡ Some X
    → Agree (loading base T (parts_in_order W name (session_roots W)) (image_by W name (session_roots W)).records) W X
loaded_same base W V X T name can is =
    let q = loading base T (parts_in_order W name (session_roots W)) (image_by W name (session_roots W)).records in
    let r = session_agrees base W V T name can in
    let x : r.world ≡ X = some_world (sym r.is ∙ is) in
    subst (λ X. Agree q W X) x r.agree

pub session_goes_on : SessionGoesOn
session_goes_on primitives plain base W V X T name can is n e vs ws fuel moving =
    let q = loading base T (parts_in_order W name (session_roots W)) (image_by W name (session_roots W)).records in
    let a = loaded_same base W V X T name can is in
    steps_keep primitives plain n e q _ _ (record { objects = a.objects; roots = a.roots; moving = moving; printed = refl; fuel = refl })

roots_same : (q : Pairs) (W X : World) → SameRoots q (roots_of W) (roots_of X) → SameValues q (session_roots W) (session_roots X)
roots_same q W X r = (
  main_same W.main X.main r.main,
  (
    same_object a_table W.globals X.globals r.globals,
    (
      table_same W.heap.string_metatable X.heap.string_metatable r.string_metatable,
      (subst (λ k. SameValue q (known (string W.special_key)) (known (string k))) r.special_key (same_known _), (subst (λ k. SameValue q (known (integer W.max_depth)) (known (integer k))) r.max_depth (same_known _), tt)),
    ),
  ),
)
  where
    main_same : (m n : Option ℕ) → Each (SameNumber q a_coroutine) m n → SameValue q (main_value m) (main_value n)
    main_same None None h = same_known nil
    main_same None (Some n) h = absurd h
    main_same (Some m) None h = absurd h
    main_same (Some m) (Some n) h = same_object a_coroutine m n h

    table_same : (m n : Option ℕ) → Each (SameNumber q a_table) m n → SameValue q (metatable_value m) (metatable_value n)
    table_same None None h = same_known nil
    table_same None (Some n) h = absurd h
    table_same (Some m) None h = absurd h
    table_same (Some m) (Some n) h = same_object a_table m n h

pub session_saved_again : SessionSavedAgain
session_saved_again base W V X T name other can is names =
    let q = loading base T (parts_in_order W name (session_roots W)) (image_by W name (session_roots W)).records in
    let a = loaded_same base W V X T name can is in
    image_same q W X a.objects name other names (session_roots W) (session_roots X) (roots_same q W X a.roots)
