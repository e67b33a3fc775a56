-- A new coroutine, and an error with its place.
use Rattle.load_rows.specs.Loading.{Builds}
use Rattle.code_core.specs.Prototype.{Prototype}
use Rattle.std.proofs.Common.{ℕ, zero, suc, ◌≡◌, List, [], ◌∷◌, ◌++◌, length, Option, Some, None, refl, sym, ap, subst, ◌∙◌, Bool, true, false, cond}
use Rattle.std.specs.Prelude.{ℤ, pos, negsuc, codes}
use Rattle.int_core.specs.Value.{Value, known, object, string, primitive, a_coroutine, shape, nth}
use Rattle.int_core.specs.Limits.{limited}
use Rattle.int_core.specs.Operations.{is_function}
use Rattle.list_laws.specs.Held.{Held}
use Rattle.list_laws.proofs.Items.{append_nil, get_old}
use Rattle.machine_core.specs.World as machine
use Rattle.machine_core.specs.World.{Frame, Coroutine, fresh, in_progress, World, stack_of}
use Rattle.machine_core.specs.Text.{read}
use Rattle.machine_core.specs.Moves as moves
use Rattle.machine_core.specs.Moves.{made, create, add_coroutine, Row, act, raised, Outcome, trapped, ends, run}
use Rattle.machine_core.specs.FrameRows.{hand_over, blames}
use Rattle.machine_core.specs.MachineStep as rows
use Rattle.machine_core.specs.MachineStep.{can_call, create_row, error_row, errs_at}
use Rattle.machine_core.specs.Talk.{State}
use Rattle.machine_means.proofs.Lists.{nth_mid}
use Rattle.lua_meaning.specs.World as talk
use Rattle.lua_meaning.specs.World.{gives_back, raises_error, raises_text, now_in}
use Rattle.library_rows.specs.Arguments.{wrong_type}
use Rattle.library_rows.specs.Library.{Primitive, base_error, coroutine_create}
use Rattle.lua_meaning.specs.Step.{Primitives, level_in, placed, error_by, creates, gives_one, does_primitive}
use Rattle.machine_sound.proofs.Frames.{stack_is}
use Rattle.machine_means.specs.Joined.{TalkWorld, Stacks, CoroutinePair, CoroutinesPair, HoldsIn, Joined}
use Rattle.machine_means.specs.Stands.{AtRest}
use Rattle.machine_means.proofs.Frames.{own_stack}
use Rattle.machine_means.proofs.Rejoined.{rejoined}
use Rattle.machine_means.proofs.Places.{where_same}
use Rattle.machine_means.proofs.AtRest.{stack_now, only}
use Rattle.means_steps.specs.Steps.{Leads, PrimitiveJoined}
use Rattle.means_steps.proofs.Primitives.{raises_so, raises_value, hands}

-- both worlds have one coroutine more, which holds no cell

module _ (fs : List machine.Function) (vs : List Value) (runs : List Frame → List Held → Type 0) where
  pairs_more : (cs : List Coroutine) (ds : List (talk.Coroutine State)) (hss : List (List Held)) → CoroutinesPair fs vs runs cs ds hss → (x : Coroutine) (y : talk.Coroutine State) (h : List Held) → CoroutinePair fs vs runs x y h → CoroutinesPair fs vs runs (cs ++ x ∷ []) (ds ++ y ∷ []) (hss ++ h ∷ [])
  pairs_more [] [] [] k x y h p zero = p
  pairs_more [] [] [] k x y h p (suc j) = tt
  pairs_more (c ∷ cs) (d ∷ ds) (hs ∷ hss) k x y h p zero = k 0
  pairs_more (c ∷ cs) (d ∷ ds) (hs ∷ hss) k x y h p (suc j) = pairs_more cs ds hss (λ j. k (suc j)) x y h p j
  pairs_more [] [] (hs ∷ hss) k x y h p j = absurd (k 0)
  pairs_more [] (d ∷ ds) [] k x y h p j = absurd (k 0)
  pairs_more [] (d ∷ ds) (hs ∷ hss) k x y h p j = absurd (k 0)
  pairs_more (c ∷ cs) [] [] k x y h p j = absurd (k 0)
  pairs_more (c ∷ cs) [] (hs ∷ hss) k x y h p j = absurd (k 0)
  pairs_more (c ∷ cs) (d ∷ ds) [] k x y h p j = absurd (k 0)

  same_count : (cs : List Coroutine) (ds : List (talk.Coroutine State)) (hss : List (List Held)) → CoroutinesPair fs vs runs cs ds hss → length cs ≡ length ds
  same_count [] [] [] k = refl
  same_count (c ∷ cs) (d ∷ ds) (hs ∷ hss) k = ap suc (same_count cs ds hss (λ j. k (suc j)))
  same_count [] [] (hs ∷ hss) k = absurd (k 0)
  same_count [] (d ∷ ds) [] k = absurd (k 0)
  same_count [] (d ∷ ds) (hs ∷ hss) k = absurd (k 0)
  same_count (c ∷ cs) [] [] k = absurd (k 0)
  same_count (c ∷ cs) [] (hs ∷ hss) k = absurd (k 0)
  same_count (c ∷ cs) (d ∷ ds) [] k = absurd (k 0)

held_more : (hss : List (List Held)) (i f r c : ℕ) → HoldsIn hss i f r c → HoldsIn (hss ++ [] ∷ []) i f r c
held_more [] i f r c m = absurd m
held_more (hs ∷ hss) zero f r c m = m
held_more (hs ∷ hss) (suc i) f r c m = held_more hss i f r c m

held_less : (hss : List (List Held)) (i f r c : ℕ) → HoldsIn (hss ++ [] ∷ []) i f r c → HoldsIn hss i f r c
held_less [] zero f r c m = absurd m
held_less [] (suc i) f r c m = absurd m
held_less (hs ∷ hss) zero f r c m = m
held_less (hs ∷ hss) (suc i) f r c m = held_less hss i f r c m

callable_same : (v : Value) → can_call (shape v) ≡ is_function v
callable_same (known (primitive n)) = refl
callable_same (object a_coroutine n) = refl
callable_same _ = refl

module _ (builds : Builds Prototype) (library : Primitives Prototype) (primitives : ℕ) (M : World) (T : TalkWorld) (k : AtRest primitives false M T) where
  abbrev v : Value
  v = nth M.moving 0

  abbrev env : List Value
  env = M.moving ++ []

  env_first : nth (M.moving ++ []) 0 ≡ nth M.moving 0
  env_first = ap (λ l. nth l 0) (append_nil M.moving)

  one_more : Joined false (record M { coroutines = M.coroutines ++ fresh v ∷ []; moving = object a_coroutine (length M.coroutines) ∷ [] }) (record T { coroutines = T.coroutines ++ talk.fresh v ∷ [] })
  one_more =
      rejoined false false M T k.joined M.cells (M.coroutines ++ fresh v ∷ []) M.chain (object a_coroutine (length M.coroutines) ∷ []) M.fuel T.cells (T.coroutines ++ talk.fresh v ∷ []) T.chain T.frames T.now T.fuel (k.joined.held ++ [] ∷ [])
      k.joined.fuel k.joined.chain
      (record {
        size = k.joined.cells.size;
        shut = k.joined.cells.shut;
        opened = λ c i f r e. held_more k.joined.held i f r c (k.joined.cells.opened c i f r e);
        held_open = λ c i f r m. k.joined.cells.held_open c i f r (held_less k.joined.held i f r c m);
        one = k.joined.cells.one;
      })
      (pairs_more M.functions T.cells (λ fr hs. Stacks false M.functions T.cells fr T.frames hs) M.coroutines T.coroutines k.joined.held k.joined.coroutines (fresh v) (talk.fresh v) [] (refl, refl))

  abbrev makes : Row
  makes = act (create (read 0)) (λ co _. rows.gives_back (read co ∷ []))

  abbrev text : List ℕ
  text = wrong_type 1 (codes "create") (codes "function") (shape (nth M.moving 0))

  abbrev made_talk : TalkWorld
  made_talk = gives_one (record T { coroutines = T.coroutines ++ talk.fresh v ∷ [] }) (object a_coroutine (length T.coroutines))

  created : is_function (nth M.moving 0) ≡ true → Leads library M.printed made_talk (run makes env (record M { moving = [] }))
  unfolding add_coroutine
  created e =
      let W : List Value → World = λ mv. record M { coroutines = M.coroutines ++ fresh v ∷ []; moving = mv } in
      let obj : Value = object a_coroutine (length M.coroutines) in
      let out : Outcome = run hand_over ((env ++ obj ∷ []) ++ []) (W (obj ∷ [])) in
      let ran : run makes env (record M { moving = [] }) ≡ run hand_over ((env ++ obj ∷ []) ++ []) (W (nth (env ++ obj ∷ []) (length env) ∷ [])) =
      ap (λ u. elim (cond (is_function u) (made {A = Unit {0}} (record M { coroutines = M.coroutines ++ fresh u ∷ []; moving = [] }) (object a_coroutine (length M.coroutines) ∷ []) tt) None) as (λ _. Outcome) [ None ↦ trapped | Some d ↦ run (rows.gives_back (read (length env) ∷ [])) (env ++ d.values) d.world ]) env_first
      ∙ ap (λ b. elim (cond b (made {A = Unit {0}} (record M { coroutines = M.coroutines ++ fresh v ∷ []; moving = [] }) (object a_coroutine (length M.coroutines) ∷ []) tt) None) as (λ _. Outcome) [ None ↦ trapped | Some d ↦ run (rows.gives_back (read (length env) ∷ [])) (env ++ d.values) d.world ]) e in
      let given : run hand_over ((env ++ obj ∷ []) ++ []) (W (nth (env ++ obj ∷ []) (length env) ∷ [])) ≡ out = ap (λ x. run hand_over ((env ++ obj ∷ []) ++ []) (W (x ∷ []))) (nth_mid env [] obj) in
      let stack : stack_of (W (obj ∷ [])) ≡ Some (record { coroutine = k.waits.coroutine; frames = k.waits.frames }) = stack_is (W (obj ∷ [])) k.waits.coroutine k.waits.frames k.waits.last (get_old M.coroutines (fresh v ∷ []) k.waits.coroutine (in_progress k.waits.frames) k.waits.running) in
      let count : length M.coroutines ≡ length T.coroutines = same_count M.functions T.cells (λ fr hs. Stacks false M.functions T.cells fr T.frames hs) M.coroutines T.coroutines k.joined.held k.joined.coroutines in
      subst (λ o. Leads library M.printed made_talk o) (sym (ran ∙ given))
      (subst (λ n. Leads library M.printed (now_in (record T { coroutines = T.coroutines ++ talk.fresh v ∷ [] }) (gives_back (object a_coroutine n ∷ []))) out) count
      (hands library primitives M T k (W (obj ∷ [])) (record T { coroutines = T.coroutines ++ talk.fresh v ∷ [] }) ((env ++ obj ∷ []) ++ []) (obj ∷ []) stack one_more refl))

  by_kind : (b : Bool) → is_function (nth M.moving 0) ≡ b → Leads library M.printed (cond b made_talk (raises_text T text)) (run (cond b makes (blames text)) env (record M { moving = [] }))
  by_kind true e = created e
  by_kind false e = raises_so library primitives M T k text env

  pub creates_so : Leads library M.printed (does_primitive Rattle.code_means.specs.Runs.codes_run builds coroutine_create T M.moving) (run create_row [] M)
  creates_so =
      subst (λ b. Leads library M.printed (creates T v) (run (cond b makes (blames text)) env (record M { moving = [] }))) (sym (callable_same v)) (by_kind (is_function v) refl)

  -- `error`

  level_same : (l : Value) → rows.level_in (shape l) ≡ level_in l
  level_same (known (primitive n)) = refl
  level_same (object a_coroutine n) = refl
  level_same _ = refl

  abbrev N : World
  N = record M { moving = [] }

  place_is : (level : ℕ) → moves.where_text N level ≡ talk.where_at T level
  place_is level =
      let o = own_stack M T k.waits.coroutine k.waits.frames false k.joined k.waits.running (only primitives M T false k) in
      where_same N T k.joined.functions false (record { coroutine = k.waits.coroutine; frames = k.waits.frames }) o.0 (stack_now primitives M T false k) o.2 level

  placed_same : (level : ℕ) (u : Value) → moves.placed N level u ≡ placed T (pos (suc level)) u
  placed_same level (known (string s)) = ap (λ w. limited (w ++ s)) (place_is level)
  placed_same level _ = refl

  errs_by : (n : Option ℤ) → Leads library M.printed (error_by T v (nth M.moving 1) n) (run (errs_at 0 (shape (nth M.moving 1)) n) env N)
  errs_by None = raises_so library primitives M T k (wrong_type 2 (codes "error") (codes "number") (shape (nth M.moving 1))) env
  errs_by (Some (pos (suc level))) =
      let u : Value = moves.placed N level (nth env 0) in
      subst (λ x. Leads library M.printed (now_in T (raises_error (placed T (pos (suc level)) v))) (ends raised (record M { moving = x ∷ [] }))) (sym (nth_mid env [] u))
      (subst (λ x. Leads library M.printed (now_in T (raises_error x)) (ends raised (record M { moving = u ∷ [] }))) (ap (moves.placed N level) env_first ∙ placed_same level v) (raises_value library primitives M T k M T u k.joined))
  errs_by (Some (pos zero)) = subst (λ x. Leads library M.printed (now_in T (raises_error v)) (ends raised (record M { moving = x ∷ [] }))) (sym env_first) (raises_value library primitives M T k M T v k.joined)
  errs_by (Some (negsuc n)) = subst (λ x. Leads library M.printed (now_in T (raises_error v)) (ends raised (record M { moving = x ∷ [] }))) (sym env_first) (raises_value library primitives M T k M T v k.joined)

  pub errs_so : Leads library M.printed (does_primitive Rattle.code_means.specs.Runs.codes_run builds base_error T M.moving) (run error_row [] M)
  errs_so = subst (λ n. Leads library M.printed (error_by T v (nth M.moving 1) n) (run error_row [] M)) (level_same (nth M.moving 1)) (errs_by (rows.level_in (shape (nth M.moving 1))))

pub create_leads : (builds : Builds Prototype) → PrimitiveJoined builds create_row coroutine_create
create_leads builds library primitives M T k = creates_so builds library primitives M T k

pub error_leads : (builds : Builds Prototype) → PrimitiveJoined builds error_row base_error
error_leads builds library primitives M T k = errs_so builds library primitives M T k
