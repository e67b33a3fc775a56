-- The rows of the functions, over whole worlds.
use Rattle.std.proofs.Common.{◌≡◌, ℕ, List, [], ◌∷◌, ◌++◌, length, Option, Some, None, refl, ap, sym, ◌∙◌, append-nil, true, false, Result, IfOk}
use Rattle.std.specs.Prelude.{cond, codes, filter_map, map, reverse, slice_get}
use Rattle.std.specs.List.{cons_option}
use Rattle.std.proofs.lemmas.Result.{IfOk-weaker}
use Rattle.int_core.specs.Limits.{limited}
use Rattle.int_core.specs.Operations.{is_function}
use Rattle.int_core.specs.Value.{Plain, string, a_table, a_function, a_coroutine, Value, known, object, Shape, is_known, is_object, shape, bind, nth}
use Rattle.machine_core.specs.World.{Frame, lua, pcall, xpcall, handler, closing, Coroutine, World, Stack, stack_of}
use Rattle.machine_core.specs.Text.{Arg, arg, read, written, args_of}
use Rattle.machine_core.specs.FrameRows.{blames, hand_over}
use Rattle.machine_core.specs.Moves.{Made, made, move, Status, status_of, add_coroutine, coroutine_number, create, frame_place, give, see_status, look, take_moving, where_text, Ending, raised, Row, act, ends, run}
use Rattle.machine_core.specs.MachineStep.{can_call, create_row, creates, gives_back, not_coroutine, sees_status, status_row, status_word, wrong_type}
use Rattle.machine_sound.proofs.Lists.{some_is}
use Rattle.table_core.specs.declared.value.CoroId.{CoroId}
use Rattle.table_core.specs.declared.value.Value.{Value as Kept}
use Rattle.table_core.specs.declared.value.Value.TheVariants.{Prim, Table, Func, Coro}
use Rattle.lua_heap.specs.declared.world.World.{World as Memory}
use Rattle.lua_heap.specs.Reading.{value}
use Rattle.lua_heap.specs.Plain.{plain}
use Rattle.move_laws.specs.Memory.{HasStack, IsSound, Leads, Makes}
use Rattle.move_laws.proofs.Rows.{act_is}
use Rattle.machine_moves.specs.declared.ending.Ending.{Ending as KeptEnding}
use Rattle.machine_moves.specs.Ending.{ending_of}
use Rattle.lib_coroutine.specs.Arguments.{IsCalledOn, can_be_called, coroutine_in}
use Rattle.machine_errors.proofs.Calls.{nth_behind}
use Rattle.machine_calls.proofs.Left.{world_made}

-- worlds in which something else moves

abbrev pub with_moving : World → List Value → World
with_moving W vs = record W { moving = vs }

pub given_is : {mid new : Memory} {vs : List Value} (xs : List Arg) → Makes mid new (give xs) vs [] tt → (fuel : ℕ) → plain new fuel ≡ with_moving (plain mid fuel) (args_of vs xs)
given_is xs h fuel = world_made (sym (h.is fuel))

pub leads_by : {row : Row} {env : List Value} {old new : Memory} {ending : Ending} (more : List Value) → ((fuel : ℕ) → run row env (plain old fuel) ≡ run hand_over more (plain new fuel))
    → ((env : List Value) → Leads hand_over env new new ending) → Leads row env old new ending
leads_by more r h = record { is = λ fuel. r fuel ∙ (h more).is fuel }

same_places : (V : World) (vs : List Value) (fs : List Frame) → filter_map (frame_place (with_moving V vs)) fs ≡ filter_map (frame_place V) fs
same_places V vs [] = refl
same_places V vs (lua f ∷ fs) = ap (cons_option (frame_place V (lua f))) (same_places V vs fs)
same_places V vs (pcall ∷ fs) = same_places V vs fs
same_places V vs (xpcall h ∷ fs) = same_places V vs fs
same_places V vs (handler ∷ fs) = same_places V vs fs
same_places V vs (closing e left ∷ fs) = same_places V vs fs

abbrev text_or_none : Option (List ℕ) → List ℕ
text_or_none o = elim o [ None ↦ [] | Some text ↦ text ]

same_where : (V : World) (vs : List Value) (n : ℕ) → where_text (with_moving V vs) n ≡ where_text V n
same_where V vs n = by (stack_of V)
  where
    by : (o : Option Stack) → text_or_none (bind o (λ s. slice_get (filter_map (frame_place (with_moving V vs)) (reverse s.frames)) n)) ≡ text_or_none (bind o (λ s. slice_get (filter_map (frame_place V) (reverse s.frames)) n))
    by None = refl
    by (Some s) = ap (λ l. text_or_none (slice_get l n)) (same_places V vs (reverse s.frames))

pub blames_on : (V : World) (text : List ℕ) (env : List Value) → run (blames text) env (with_moving V []) ≡ run (blames text) [] V
blames_on V text env = ap (λ w. ends raised (with_moving V (limited (w ++ text) ∷ []))) (same_where V [] 0)

-- a function that looks at its first argument

abbrev pub looks : (Shape → ℕ → Row) → Row
looks row = act take_moving (λ v _. act (look (read v)) (λ _ s. row s v))

refused_is : (row : Shape → ℕ → Row) (text : List ℕ) (V : World) → row (shape (nth V.moving 0)) 0 ≡ blames text → run (looks row) [] V ≡ run (blames text) [] V
refused_is row text V same = ap (λ r. run r (V.moving ++ []) (with_moving V [])) same ∙ blames_on V text (V.moving ++ [])

pub refuses : {old new : Memory} {ending : Ending} (row : Shape → ℕ → Row) (text : List ℕ) → row (shape (nth (map (value old.strings) old.moving.items) 0)) 0 ≡ blames text
    → ((env : List Value) → Leads (blames text) env old new ending) → Leads (looks row) [] old new ending
refuses {old} row text same l = record { is = λ fuel. refused_is row text (plain old fuel) same ∙ (l []).is fuel }

pub first_coroutine : (v : Kept) (co : CoroId) → coroutine_in v ≡ Some co → v ≡ Coro co
first_coroutine (Coro id) co e = ap Coro (some_is {o = Some id} refl e)
first_coroutine _ co e = absurd (cc)

-- a first argument that is no coroutine
module _ (row : Shape → ℕ → Row) (name : List ℕ) (plainly : (p : Plain) → row (is_known p) 0 ≡ not_coroutine name (is_known p)) (table : row (is_object a_table) 0 ≡ not_coroutine name (is_object a_table))
    (function : row (is_object a_function) 0 ≡ not_coroutine name (is_object a_function)) where
  pub wrong : (texts : List (List ℕ)) (v : Kept) → coroutine_in v ≡ None → row (shape (value texts v)) 0 ≡ blames (wrong_type 1 name (codes "coroutine") (shape (value texts v)))
  wrong texts (Table id) e = table
  wrong texts (Func id) e = function
  wrong texts (Coro id) e = absurd (cc)
  wrong texts _ e = plainly _

-- the first of the values that move, as it is read from them

pub called_on : (W : Memory) (v : Kept) (taken : List Kept) (co : CoroId) → IsSound W → HasStack W → value W.strings v ≡ nth (map (value W.strings) taken) 0 → taken ≡ W.moving.items → coroutine_in v ≡ Some co → IsCalledOn W co
called_on W v taken co sound running e moved is = record {
  sound = sound;
  running = running;
  first = sym (e ∙ ap (λ l. nth (map (value W.strings) l) 0) moved) ∙ ap (value W.strings) (first_coroutine v co is);
}

pub refuses_first : {old new : Memory} {ending : Ending} (row : Shape → ℕ → Row) (name : List ℕ) (plainly : (p : Plain) → row (is_known p) 0 ≡ not_coroutine name (is_known p)) (table : row (is_object a_table) 0 ≡ not_coroutine name (is_object a_table))
    (function : row (is_object a_function) 0 ≡ not_coroutine name (is_object a_function)) (v : Kept) (taken : List Kept) → value old.strings v ≡ nth (map (value old.strings) taken) 0 → taken ≡ old.moving.items → coroutine_in v ≡ None
    → ((env : List Value) → Leads (blames (wrong_type 1 name (codes "coroutine") (shape (value old.strings v)))) env old new ending) → Leads (looks row) [] old new ending
refuses_first {old} row name plainly table function v taken e moved is =
    let first : value old.strings v ≡ nth (map (value old.strings) old.moving.items) 0 = e ∙ ap (λ l. nth (map (value old.strings) l) 0) moved in
    refuses row (wrong_type 1 name (codes "coroutine") (shape (value old.strings v))) (ap (λ v. row (shape v) 0) (sym first) ∙ wrong row name plainly table function old.strings v is)

-- and what answers so
pub first_refused : {E : Type 0} (old new : Memory) (r : Result KeptEnding E) (row : Shape → ℕ → Row) (name : List ℕ) (plainly : (p : Plain) → row (is_known p) 0 ≡ not_coroutine name (is_known p))
    (table : row (is_object a_table) 0 ≡ not_coroutine name (is_object a_table)) (function : row (is_object a_function) 0 ≡ not_coroutine name (is_object a_function)) (v : Kept) (taken : List Kept)
    → value old.strings v ≡ nth (map (value old.strings) taken) 0 → taken ≡ old.moving.items → coroutine_in v ≡ None
    → IfOk r (λ ending. (env : List Value) → Leads (blames (wrong_type 1 name (codes "coroutine") (shape (value old.strings v)))) env old new (ending_of ending))
    → IfOk r (λ ending. Leads (looks row) [] old new (ending_of ending))
first_refused old new r row name plainly table function v taken e moved is h = IfOk-weaker r _ _ (λ ending b. refuses_first row name plainly table function v taken e moved is b) h

-- how one stands

told_same : {V : World} {s t : Status} → made V [] s ≡ made V [] t → s ≡ t
told_same {V} {s} e = ap (λ (o : Option (Made Status)). elim o as (λ _. Status) [ Some d ↦ d.told | None ↦ s ]) e

sees_in : (V : World) (co : ℕ) (t : Status) (env : List Value) (x : Arg) → arg env x ≡ object a_coroutine co
    → move (see_status x) env V ≡ bind {B = Made Status} (slice_get V.coroutines co) (λ c. made V [] (status_of c))
sees_in V co t env x e = ap (λ v. bind {B = Made Status} (coroutine_number v) (λ co. bind {B = Made Status} (slice_get V.coroutines co) (λ c. made V [] (status_of c)))) e

stands_moved : (V : World) (vs : List Value) (t : Status) (o : Option Coroutine) → bind {B = Made Status} o (λ c. made V [] (status_of c)) ≡ made V [] t
    → bind {B = Made Status} o (λ c. made (with_moving V vs) [] (status_of c)) ≡ made (with_moving V vs) [] t
stands_moved V vs t None e = absurd (cc)
stands_moved V vs t (Some c) e = ap (made (with_moving V vs) []) (told_same e)

status_is : (V : World) (co : ℕ) (t : Status) → nth V.moving 0 ≡ object a_coroutine co → move (see_status (read 0)) V.moving V ≡ made V [] t
    → run status_row [] V ≡ run hand_over (V.moving ++ [] ++ [] ++ []) (with_moving V (known (string (status_word t)) ∷ []))
status_is V co t e s =
    let V0 = with_moving V [] in
    let still : nth (V.moving ++ []) 0 ≡ object a_coroutine co = ap (λ l. nth l 0) (append-nil V.moving) ∙ e in
    ap (λ s. run (sees_status s 0) (V.moving ++ []) V0) (ap shape e)
    ∙ act_is (see_status (read 0)) (λ _ t. gives_back (written (string (status_word t)) ∷ [])) (V.moving ++ []) V0 V0 [] t
    (sees_in V0 co t (V.moving ++ []) (read 0) still ∙ stands_moved V [] t (slice_get V.coroutines co) (sym (sees_in V co t V.moving (read 0) e) ∙ s))

pub status_leads : {old mid new : Memory} {ending : Ending} (co : ℕ) (t : Status) (text : Value) → nth (map (value old.strings) old.moving.items) 0 ≡ object a_coroutine co
    → ((env : List Value) (x : Arg) → arg env x ≡ object a_coroutine co → Makes old old (see_status x) env [] t)
    → ((fuel : ℕ) → plain mid fuel ≡ plain old fuel) → text ≡ known (string (status_word t)) → Makes mid new (give (read 0 ∷ [])) (text ∷ []) [] tt → ((env : List Value) → Leads hand_over env new new ending) → Leads status_row [] old new ending
status_leads {old} {mid} {new} co t text e s m w g h =
    leads_by (map (value old.strings) old.moving.items ++ [] ++ [] ++ []) (λ fuel.
    let V = plain old fuel in
    status_is V co t e ((s V.moving (read 0) e).is fuel)
    ∙ ap (run hand_over (V.moving ++ [] ++ [] ++ [])) (ap (λ v. with_moving V (v ∷ [])) (sym w) ∙ ap (λ W. with_moving W (text ∷ [])) (sym (m fuel)) ∙ sym (given_is (read 0 ∷ []) g fuel))) h

-- new ones

added_moving : (V : World) (v : Value) (vs ws : List Value) → with_moving (add_coroutine (with_moving V vs) v) ws ≡ with_moving (add_coroutine V v) ws
unfolding add_coroutine
added_moving V v vs ws = refl

created_is : (V : World) (v : Value) → nth V.moving 0 ≡ v → can_call (shape v) ≡ true → is_function v ≡ true
    → run create_row [] V ≡ run hand_over (V.moving ++ [] ++ object a_coroutine (length V.coroutines) ∷ [] ++ []) (with_moving (add_coroutine V v) (nth (V.moving ++ [] ++ object a_coroutine (length V.coroutines) ∷ []) (length (V.moving ++ [])) ∷ []))
created_is V v e f g =
    let V0 = with_moving V [] in
    let E = V.moving ++ [] in
    let still : nth E 0 ≡ v = ap (λ l. nth l 0) (append-nil V.moving) ∙ e in
    ap (λ v. run (creates (shape v) 0) E V0) e
    ∙ ap (λ b. run (cond b (act (create (read 0)) (λ co _. gives_back (read co ∷ []))) (blames (wrong_type 1 (codes "create") (codes "function") (shape v)))) E V0) f
    ∙ act_is (create (read 0)) (λ co _. gives_back (read co ∷ [])) E V0 (add_coroutine V0 v) (object a_coroutine (length V.coroutines) ∷ []) tt
    (ap (λ v. cond (is_function v) (made (add_coroutine V0 v) (object a_coroutine (length V.coroutines) ∷ []) tt) None) still
    ∙ ap (λ b. cond b (made (add_coroutine V0 v) (object a_coroutine (length V.coroutines) ∷ []) tt) None) g)
    ∙ ap (run hand_over (E ++ object a_coroutine (length V.coroutines) ∷ [] ++ [])) (added_moving V v [] (nth (E ++ object a_coroutine (length V.coroutines) ∷ []) (length E) ∷ []))

pub callable : (texts : List (List ℕ)) (v : Kept) → can_be_called v ≡ true → (can_call (shape (value texts v)) ≡ true) × (is_function (value texts v) ≡ true)
callable texts (Prim n) e = (refl, refl)
callable texts (Func id) e = (refl, refl)
callable texts _ e = absurd (cc)

pub not_callable : (texts : List (List ℕ)) (v : Kept) → can_be_called v ≡ false → creates (shape (value texts v)) 0 ≡ blames (wrong_type 1 (codes "create") (codes "function") (shape (value texts v)))
not_callable texts (Prim n) e = absurd (cc)
not_callable texts (Func id) e = absurd (cc)
not_callable texts _ e = refl

made_world : {V W : World} {a b : Value} → ◌≡◌ {A = Option (Made (Unit {0}))} (made V (a ∷ []) tt) (made W (b ∷ []) tt) → (V ≡ W) × (a ≡ b)
made_world {V} {W} {a} {b} e =
    (ap (λ (o : Option (Made (Unit {0}))). elim o as (λ _. World) [ Some d ↦ d.world | None ↦ V ]) e, ap (λ (o : Option (Made (Unit {0}))). elim o as (λ _. Value) [ Some d ↦ nth d.values 0 | None ↦ a ]) e)

pub create_leads : {old mid new : Memory} {ending : Ending} (v : Value) (id : ℕ) → nth (map (value old.strings) old.moving.items) 0 ≡ v → can_call (shape v) ≡ true → is_function v ≡ true
    → Makes old mid (create (read 0)) (v ∷ []) (object a_coroutine id ∷ []) tt → Makes mid new (give (read 0 ∷ [])) (object a_coroutine id ∷ []) [] tt → ((env : List Value) → Leads hand_over env new new ending)
    → Leads create_row [] old new ending
create_leads {old} {mid} {new} {ending} v id e f g m k h = record {
  is = λ fuel.
      let V = plain old fuel in
      let E = V.moving ++ [] in
      let n = object a_coroutine (length V.coroutines) in
      let both = made_world (sym (ap (λ b. cond b (made (add_coroutine V v) (n ∷ []) tt) None) g) ∙ m.is fuel) in
      let same : with_moving (add_coroutine V v) (nth (E ++ n ∷ []) (length E) ∷ []) ≡ plain new fuel =
      ap (λ x. with_moving (add_coroutine V v) (x ∷ [])) (nth_behind E (n ∷ []) ∙ both.1) ∙ ap (λ W. with_moving W (object a_coroutine id ∷ [])) both.0 ∙ sym (given_is (read 0 ∷ []) k fuel) in
      created_is V v e f g ∙ ap (run hand_over (E ++ n ∷ [] ++ [])) same ∙ (h (E ++ n ∷ [] ++ [])).is fuel;
}
