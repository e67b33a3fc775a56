-- The primitives: those that move frames and coroutines, make or look at a coroutine, print, raise, or look at values and tables alone.
use Rattle.load_rows.specs.Loading.{Builds}
use Rattle.code_core.specs.Prototype.{Prototype}
use Rattle.std.proofs.Common.{ℕ, zero, suc, ◌<◌, ◌≡◌, List, [], ◌∷◌, ◌++◌, length, Option, Some, None, refl, sym, ap, subst, ◌∙◌, arith, Bool, true, false}
use Rattle.std.specs.Prelude.{slice_get, option_map, drop, codes}
use Rattle.int_core.specs.Heap.{Heap}
use Rattle.int_core.specs.Value.{Value, known, object, boolean, string, primitive, a_table, a_function, a_coroutine, shape, nth, bind}
use Rattle.library_rows.specs.Look.{Look, Done, looked}
use Rattle.library_rows.specs.Look.{done as came, refused as was_refused, raised as was_raised}
use Rattle.list_laws.specs.Held.{Held}
use Rattle.list_laws.proofs.Items.{append_nil}
use Rattle.list_laws.proofs.Values.{drop_front}
use Rattle.machine_core.specs.World.{Frame, Coroutine, fresh, suspended, in_progress, normal, dead, failed, World, Stack, stack_of}
use Rattle.machine_core.specs.Text.{read, written}
use Rattle.machine_core.specs.Moves as moves
use Rattle.machine_core.specs.Moves.{made, Status, runs_main, consulted, bytes_in, add_printed, raised, Outcome, trapped, ends, run}
use Rattle.machine_core.specs.FrameRows.{hand_over, blames}
use Rattle.machine_core.specs.MachineStep as rows
use Rattle.machine_core.specs.MachineStep.{pcall_row, xpcall_row, resume_row, yield_row, close_row, look_row, after_look, status_row, status_word, running_row, yieldable_row, print_row}
use Rattle.machine_core.specs.Talk.{State}
use Rattle.lua_meaning.specs.World as talk
use Rattle.lua_meaning.specs.World.{gives_back, raises_error, raises_text, now_in, breaks}
use Rattle.lua_meaning.specs.Calls as calls
use Rattle.library_rows.specs.Arguments.{wrong_type}
use Rattle.library_rows.specs.Library.{Primitive, base_error, base_pcall, base_xpcall, coroutine_close, coroutine_create, coroutine_isyieldable, coroutine_resume, coroutine_running, coroutine_status, coroutine_yield, prelude_build, prelude_out, row_of}
use Rattle.lua_meaning.specs.Step.{Primitives, gives_one, status_of, with_coroutine, runs_one, bytes_in as bytes_of, row, after_row, does_primitive}
use Rattle.code_means.specs.Runs.{codes_run}
use Rattle.machine_sound.proofs.Frames.{stack_is}
use Rattle.machine_means.specs.Joined.{TalkWorld, Stacks, CoroutinePair, Joined}
use Rattle.machine_means.specs.Laws.{HasBegun}
use Rattle.machine_means.specs.Stands.{error_raised, AtRest}
use Rattle.machine_means.proofs.Lists.{nth_mid}
use Rattle.machine_means.proofs.Loosened.{loosened}
use Rattle.machine_means.proofs.CellWrites.{all3_first}
use Rattle.machine_means.proofs.Handing.{moved, told_now, gives}
use Rattle.machine_means.proofs.AtRest.{stack_now}
use Rattle.machine_means.proofs.Raising.{raising, protected_calls}
use Rattle.machine_means.proofs.Giving.{yields_joined}
use Rattle.machine_means.proofs.Resumed.{resumes_joined}
use Rattle.machine_means.proofs.Beginning.{coroutines_begin}
use Rattle.machine_means.proofs.Burying.{coroutines_closed}
use Rattle.machine_means.proofs.Running.{runs_first}
use Rattle.means_steps.specs.Steps.{Leads, PrimitiveJoined}
use Rattle.means_steps.proofs.Within.{EndsNoTurn, comes_leads, gives_leads, either, resume_free, close_free}
use Rattle.means_steps.proofs.Mains.{main_yields}

-- a text that is raised costs nothing
pub blames_free : (text : List ℕ) → EndsNoTurn (blames text)
blames_free text = λ _ _ _. tt

module _ (library : Primitives Prototype) (primitives : ℕ) (M : World) (T : TalkWorld) (k : AtRest primitives false M T) where
  abbrev N : World
  N = record M { moving = [] }

  abbrev s : Stack
  s = record { coroutine = k.waits.coroutine; frames = k.waits.frames }

  -- an error of an argument
  pub raises_so : (text : List ℕ) (env : List Value) → Leads library M.printed (raises_text T text) (run (blames text) env (record M { moving = [] }))
  raises_so text env = comes_leads library M.printed (blames text) env N (raises_text T text) (blames_free text) (raising primitives M T k text env [])

  -- results, in worlds that stay joined
  pub hands : (W : World) (U : TalkWorld) (env mv : List Value) → stack_of W ≡ Some (record { coroutine = k.waits.coroutine; frames = k.waits.frames }) → Joined false W U → W.moving ≡ mv → Leads library M.printed (now_in U (gives_back mv)) (run hand_over env W)
  hands W U env mv e j m =
      subst (λ vs. Leads library M.printed (now_in U (gives_back vs)) (run hand_over env W)) m
      (gives_leads library M.printed (run hand_over env W) (now_in U (gives_back W.moving)) (gives W (now_in U (gives_back W.moving)) s env e (told_now false W U (gives_back W.moving) j) refl))

  -- the same world, with other results
  pub hands_here : (env mv : List Value) → Leads library M.printed (now_in T (gives_back mv)) (run hand_over env (record M { moving = mv }))
  hands_here env mv = hands (record M { moving = mv }) T env mv (stack_now primitives M T false k) (moved false M T mv k.joined) refl

  -- an error's value is raised as it is
  pub raises_value : (W : World) (U : TalkWorld) (e : Value) → Joined false W U → Leads library M.printed (now_in U (raises_error e)) (ends raised (record W { moving = e ∷ [] }))
  raises_value W U e j =
      (0, error_raised (record W { moving = e ∷ [] }) (now_in U (raises_error e)) e refl refl (told_now true (record W { moving = e ∷ [] }) U (raises_error e) (moved true W U (e ∷ []) (loosened true W U j))))

-- a primitive that looks at values and tables alone does in both worlds what its row says

row_is : (p : Primitive) (l : Look) (H : Heap) (vs : List Value) → row_of p ≡ Some l → row p H vs ≡ Some (looked l vs H)
unfolding row
row_is p l H vs e = ap (option_map (λ (l : Look). looked l vs H)) e

told_by_row : (builds : Builds Prototype) (p : Primitive) (l : Look) (T : TalkWorld) (vs : List Value) → row_of p ≡ Some l → does_primitive codes_run builds p T vs ≡ after_row T (Some (looked l vs T.heap))
told_by_row builds base_error l T vs e = absurd (cc)
told_by_row builds base_pcall l T vs e = absurd (cc)
told_by_row builds base_xpcall l T vs e = absurd (cc)
told_by_row builds coroutine_close l T vs e = absurd (cc)
told_by_row builds coroutine_create l T vs e = absurd (cc)
told_by_row builds coroutine_isyieldable l T vs e = absurd (cc)
told_by_row builds coroutine_resume l T vs e = absurd (cc)
told_by_row builds coroutine_running l T vs e = absurd (cc)
told_by_row builds coroutine_status l T vs e = absurd (cc)
told_by_row builds coroutine_yield l T vs e = absurd (cc)
told_by_row builds prelude_build l T vs e = absurd (cc)
told_by_row builds prelude_out l T vs e = absurd (cc)
told_by_row builds p l T vs e = ap (after_row T) (row_is p l T.heap vs e)

-- the heap is another one, and more is printed
told_joined : {M : World} {T : TalkWorld} → Joined false M T → (H G : Heap) (out text : List ℕ) (vs : List Value) → H ≡ G → out ≡ text
    → Joined false (record M { heap = H; printed = out; moving = vs }) (record T { heap = G; printed = text })
told_joined k H G out text vs heap printed =
    record { heap = heap; globals = k.globals; printed = printed; fuel = k.fuel; chain = k.chain; functions = k.functions; held = k.held; cells = k.cells; coroutines = k.coroutines }

pub look_leads : (l : Look) (p : Primitive) → row_of p ≡ Some l → (builds : Builds Prototype) → PrimitiveJoined builds (look_row l) p
look_leads l p is builds library primitives M T k =
    subst (λ X. Leads library M.printed X (run (look_row l) [] M)) (sym (told_by_row builds p l T M.moving is))
    (subst (λ H. Leads library M.printed (after_row T (Some (looked l M.moving H))) (run (look_row l) [] M)) k.joined.heap (by (looked l M.moving M.heap)))
  where
    out : Done → Outcome
    out d = elim (consulted (record M { moving = [] }) d) as (λ _. Outcome) [ None ↦ trapped | Some r ↦ run (after_look (length M.moving) r.told) (M.moving ++ r.values) r.world ]

    with_heap : (H : Heap) (vs : List Value) → Joined false (record M { heap = H; moving = vs }) (record T { heap = H })
    with_heap H vs = told_joined k.joined H H M.printed T.printed vs refl k.joined.printed

    by : (d : Done) → Leads library M.printed (after_row T (Some d)) (out d)
    by (came H vs) =
        subst (λ xs. Leads library M.printed (now_in (record T { heap = H }) (gives_back vs)) (run hand_over ((M.moving ++ vs) ++ []) (record M { heap = H; moving = xs }))) (sym (drop_front M.moving vs))
        (hands library primitives M T k (record M { heap = H; moving = vs }) (record T { heap = H }) ((M.moving ++ vs) ++ []) vs (stack_is (record M { heap = H; moving = vs }) k.waits.coroutine k.waits.frames k.waits.last k.waits.running) (with_heap H vs) refl)
    by (was_refused text) = raises_so library primitives M T k text (M.moving ++ [])
    by (was_raised H e) =
        subst (λ x. Leads library M.printed (now_in (record T { heap = H }) (raises_error e)) (ends raised (record M { heap = H; moving = x ∷ [] }))) (sym (nth_mid M.moving [] e))
        (raises_value library primitives M T k (record M { heap = H; moving = [] }) (record T { heap = H }) e (with_heap H []))

-- printing

same_bytes : (v : Value) → bytes_in v ≡ bytes_of v
same_bytes (known (primitive n)) = refl
same_bytes _ = refl

pub print_leads : (builds : Builds Prototype) → PrimitiveJoined builds print_row prelude_out
unfolding add_printed
print_leads builds library primitives M T k =
    let v : Value = nth M.moving 0 in
    let W : World = record M { printed = M.printed ++ bytes_in v; moving = [] } in
    let U : TalkWorld = record T { printed = T.printed ++ bytes_of v } in
    let printed : W.printed ≡ U.printed = ap (λ out. out ++ bytes_in v) k.joined.printed ∙ ap (λ text. T.printed ++ text) (same_bytes v) in
    let j : Joined false W U = told_joined k.joined M.heap T.heap (M.printed ++ bytes_in v) (T.printed ++ bytes_of v) [] k.joined.heap printed in
    hands library primitives M T k W U (M.moving ++ []) [] (stack_is W k.waits.coroutine k.waits.frames k.waits.last k.waits.running) j refl

-- `isyieldable` and `running`

pub yieldable_leads : (builds : Builds Prototype) → PrimitiveJoined builds yieldable_row coroutine_isyieldable
yieldable_leads builds library primitives M T k = hands_here library primitives M T k [] (known (boolean true) ∷ [])

pub running_leads : (builds : Builds Prototype) → PrimitiveJoined builds running_row coroutine_running
running_leads builds library primitives M T k =
    let f = runs_first primitives M k.solid k.waits T false k.joined in
    let mv : List Value = object a_coroutine k.waits.coroutine ∷ known (boolean false) ∷ [] in
    let ran : run running_row [] M ≡ run hand_over (object a_coroutine k.waits.coroutine ∷ []) (record M { moving = mv }) =
    ap (λ o. elim (bind o (λ co. made {A = Unit {0}} M (object a_coroutine co ∷ []) tt)) as (λ _. Outcome) [ None ↦ trapped | Some d ↦ run (rows.gives_back (read 0 ∷ written (boolean false) ∷ [])) ([] ++ d.values) d.world ]) k.waits.last in
    subst (λ o. Leads library M.printed (runs_one T T.chain) o) (sym ran)
    (subst (λ ch. Leads library M.printed (runs_one T ch) (run hand_over (object a_coroutine k.waits.coroutine ∷ []) (record M { moving = mv }))) (sym f.1) (hands_here library primitives M T k (object a_coroutine k.waits.coroutine ∷ []) mv))

-- `pcall` and `xpcall`

pub pcall_leads : (builds : Builds Prototype) → PrimitiveJoined builds pcall_row base_pcall
pcall_leads builds library primitives M T k =
    comes_leads library M.printed pcall_row [] M (does_primitive codes_run builds base_pcall T M.moving) (λ _ _ _ _ room _. either room _ _ (λ _ _ _. tt) (λ _ _ _. tt)) (protected_calls builds primitives M T k).0

pub xpcall_leads : (builds : Builds Prototype) → PrimitiveJoined builds xpcall_row base_xpcall
xpcall_leads builds library primitives M T k =
    comes_leads library M.printed xpcall_row [] M (does_primitive codes_run builds base_xpcall T M.moving) (λ _ _ _ _ room _. either room _ _ (λ _ _ _. tt) (λ _ _ _. tt)) (protected_calls builds primitives M T k).1

-- `yield`

pub yield_leads : (builds : Builds Prototype) → PrimitiveJoined builds yield_row coroutine_yield
yield_leads builds library primitives M T k = by (runs_main M) refl
  where
    by : (b : Bool) → runs_main M ≡ b → Leads library M.printed (does_primitive codes_run builds coroutine_yield T M.moving) (run yield_row [] M)
    by true e = main_yields primitives M T false k.solid k.waits k.joined e library refl
    by false e = gives_leads library M.printed (run yield_row [] M) (does_primitive codes_run builds coroutine_yield T M.moving) (yields_joined builds primitives M T (record { solid = k.solid; waits = k.waits; resumed = e; joined = k.joined }))

-- what is no coroutine is refused

module _ (builds : Builds Prototype) (library : Primitives Prototype) (primitives : ℕ) (M : World) (T : TalkWorld) (k : AtRest primitives false M T) where
  abbrev mv : List Value
  mv = M.moving

  is_first : (v : Value) (vs : List Value) → M.moving ≡ v ∷ vs → nth M.moving 0 ≡ v
  is_first v vs e = ap (λ l. nth l 0) e

  resumed_out : (o : Outcome) → run resume_row [] M ≡ o → (co : ℕ) (vs : List Value) → M.moving ≡ object a_coroutine co ∷ vs → (c : Coroutine) → slice_get M.coroutines co ≡ Some c → Leads library M.printed (does_primitive codes_run builds coroutine_resume T (object a_coroutine co ∷ vs)) (run resume_row [] M)
  resumed_out trapped q co vs e c there = subst (λ o. Leads library M.printed (does_primitive codes_run builds coroutine_resume T (object a_coroutine co ∷ vs)) o) (sym q) tt
  resumed_out (ends ending W) q co vs e c there = by c there
    where
      begun : (c : Coroutine) → HasBegun c → slice_get M.coroutines co ≡ Some c → Leads library M.printed (does_primitive codes_run builds coroutine_resume T (object a_coroutine co ∷ vs)) (run resume_row [] M)
      begun c h there = gives_leads library M.printed (run resume_row [] M) (does_primitive codes_run builds coroutine_resume T (object a_coroutine co ∷ vs)) (resumes_joined builds primitives M T k.solid k.waits k.joined co vs e c there h)

      by : (c : Coroutine) → slice_get M.coroutines co ≡ Some c → Leads library M.printed (does_primitive codes_run builds coroutine_resume T (object a_coroutine co ∷ vs)) (run resume_row [] M)
      by (fresh body) there =
          comes_leads library M.printed resume_row [] M (does_primitive codes_run builds coroutine_resume T (object a_coroutine co ∷ vs)) resume_free
          (coroutines_begin builds primitives M T k co vs e body there (λ t. (let z : ends ending W ≡ trapped = sym q ∙ t in cc)))
      by (suspended fr) there = begun (suspended fr) tt there
      by (in_progress fr) there = begun (in_progress fr) tt there
      by (normal fr) there = begun (normal fr) tt there
      by dead there = begun dead tt there
      by (failed v us) there = begun (failed v us) tt there

  first_of : (l : List Value) (co : ℕ) → nth l 0 ≡ object a_coroutine co → l ≡ object a_coroutine co ∷ drop 1 l
  first_of [] co e = absurd (cc)
  first_of (x ∷ l) co e = ap (λ x. x ∷ l) e

  item_at : {A : Type 0} (xs : List A) (i : ℕ) → i < length xs → (x : A) × (slice_get xs i ≡ Some x)
  item_at [] i l = absurd (omega (arith, l))
  item_at (x ∷ xs) zero l = (x, refl)
  item_at (x ∷ xs) (suc i) l = item_at xs i (omega (arith, l))

  -- a coroutine that moves is there
  there_is : (co : ℕ) → nth M.moving 0 ≡ object a_coroutine co → (c : Coroutine) × (slice_get M.coroutines co ≡ Some c)
  there_is co e = item_at M.coroutines co (k.solid.moving 0 (object a_coroutine co) (ap (λ l. slice_get l 0) (first_of M.moving co e)))

  resumes_by : (v : Value) → nth M.moving 0 ≡ v → Leads library M.printed (with_coroutine T (codes "resume") v (λ co c. calls.resumes codes_run T co c (drop 1 M.moving))) (run (rows.resumes (shape v) 0) (M.moving ++ []) (record M { moving = [] }))
      → Leads library M.printed (does_primitive codes_run builds coroutine_resume T M.moving) (run resume_row [] M)
  resumes_by v e l =
      subst (λ u. Leads library M.printed (with_coroutine T (codes "resume") u (λ co c. calls.resumes codes_run T co c (drop 1 M.moving))) (run (rows.resumes (shape u) 0) (M.moving ++ []) (record M { moving = [] }))) (sym e) l

  pub resume_any : (v : Value) → nth M.moving 0 ≡ v → Leads library M.printed (does_primitive codes_run builds coroutine_resume T M.moving) (run resume_row [] M)
  resume_any (object a_coroutine co) e =
      let c = there_is co e in
      let m = first_of M.moving co e in
      subst (λ l. Leads library M.printed (does_primitive codes_run builds coroutine_resume T l) (run resume_row [] M)) (sym m) (resumed_out (run resume_row [] M) refl co (drop 1 M.moving) m c.0 c.1)
  resume_any (known p) e = resumes_by (known p) e (raises_so library primitives M T k (wrong_type 1 (codes "resume") (codes "coroutine") (shape (known p))) (M.moving ++ []))
  resume_any (object a_table n) e = resumes_by (object a_table n) e (raises_so library primitives M T k (wrong_type 1 (codes "resume") (codes "coroutine") (shape (object a_table n))) (M.moving ++ []))
  resume_any (object a_function n) e = resumes_by (object a_function n) e (raises_so library primitives M T k (wrong_type 1 (codes "resume") (codes "coroutine") (shape (object a_function n))) (M.moving ++ []))

  closes_by : (v : Value) → nth M.moving 0 ≡ v → Leads library M.printed (with_coroutine T (codes "close") v (λ co c. calls.closes_coroutine codes_run T co c)) (run (rows.closes_coroutine (shape v) 0) (M.moving ++ []) (record M { moving = [] }))
      → Leads library M.printed (does_primitive codes_run builds coroutine_close T M.moving) (run close_row [] M)
  closes_by v e l =
      subst (λ u. Leads library M.printed (with_coroutine T (codes "close") u (λ co c. calls.closes_coroutine codes_run T co c)) (run (rows.closes_coroutine (shape u) 0) (M.moving ++ []) (record M { moving = [] }))) (sym e) l

  pub close_any : (v : Value) → nth M.moving 0 ≡ v → Leads library M.printed (does_primitive codes_run builds coroutine_close T M.moving) (run close_row [] M)
  close_any (object a_coroutine co) e =
      let c = there_is co e in
      let m = first_of M.moving co e in
      subst (λ l. Leads library M.printed (does_primitive codes_run builds coroutine_close T l) (run close_row [] M)) (sym m)
      (comes_leads library M.printed close_row [] M (does_primitive codes_run builds coroutine_close T (object a_coroutine co ∷ drop 1 M.moving)) close_free (coroutines_closed builds primitives M T k co (drop 1 M.moving) m c.0 c.1))
  close_any (known p) e = closes_by (known p) e (raises_so library primitives M T k (wrong_type 1 (codes "close") (codes "coroutine") (shape (known p))) (M.moving ++ []))
  close_any (object a_table n) e = closes_by (object a_table n) e (raises_so library primitives M T k (wrong_type 1 (codes "close") (codes "coroutine") (shape (object a_table n))) (M.moving ++ []))
  close_any (object a_function n) e = closes_by (object a_function n) e (raises_so library primitives M T k (wrong_type 1 (codes "close") (codes "coroutine") (shape (object a_function n))) (M.moving ++ []))

  -- `status`

  same_word : (runs : List Frame → List Held → Type 0) (c : Coroutine) (d : talk.Coroutine State) (hs : List Held) → CoroutinePair M.functions T.cells runs c d hs → status_word (moves.status_of c) ≡ status_of d
  same_word runs (fresh v) (talk.fresh w) hs p = refl
  same_word runs (suspended fr) (talk.suspended ts) hs p = refl
  same_word runs (in_progress fr) talk.running hs p = refl
  same_word runs (normal fr) (talk.normal ts) hs p = refl
  same_word runs dead talk.dead hs p = refl
  same_word runs (failed e us) (talk.failed d ws) hs p = refl
  same_word runs _ _ hs p = absurd p

  abbrev runs : List Frame → List Held → Type 0
  runs fr hs = Stacks false M.functions T.cells fr T.frames hs

  status_by : (v : Value) → nth M.moving 0 ≡ v → Leads library M.printed (with_coroutine T (codes "status") v (λ co c. gives_one T (calls.text (status_of c)))) (run (rows.sees_status (shape v) 0) (M.moving ++ []) (record M { moving = [] }))
      → Leads library M.printed (does_primitive codes_run builds coroutine_status T M.moving) (run status_row [] M)
  status_by v e l =
      subst (λ u. Leads library M.printed (with_coroutine T (codes "status") u (λ co c. gives_one T (calls.text (status_of c)))) (run (rows.sees_status (shape u) 0) (M.moving ++ []) (record M { moving = [] }))) (sym e) l

  pub status_any : (v : Value) → nth M.moving 0 ≡ v → Leads library M.printed (does_primitive codes_run builds coroutine_status T M.moving) (run status_row [] M)
  status_any (object a_coroutine co) e =
      let c = there_is co e in
      let p = all3_first (CoroutinePair M.functions T.cells runs) c.0 (slice_get M.coroutines co) (slice_get T.coroutines co) (slice_get k.joined.held co) c.1 (k.joined.coroutines co) in
      let word : List Value = calls.text (status_of p.0) ∷ [] in
      let env : List Value = M.moving ++ [] in
      let first : nth (M.moving ++ []) 0 ≡ object a_coroutine co = ap (λ l. nth l 0) (append_nil M.moving) ∙ e in
      let ran : run (rows.sees_status (shape (object a_coroutine co)) 0) env N ≡ run hand_over (env ++ [] ++ []) (record M { moving = known (string (status_word (moves.status_of c.0))) ∷ [] }) =
      ap (λ v. elim (bind (moves.coroutine_number v) (λ co. bind (slice_get M.coroutines co) (λ c. made {A = Status} N [] (moves.status_of c)))) as (λ _. Outcome) [ None ↦ trapped | Some d ↦ run (rows.gives_back (written (string (status_word d.told)) ∷ [])) (env ++ d.values) d.world ]) first
      ∙ ap (λ o. elim (bind o (λ c. made {A = Status} N [] (moves.status_of c))) as (λ _. Outcome) [ None ↦ trapped | Some d ↦ run (rows.gives_back (written (string (status_word d.told)) ∷ [])) (env ++ d.values) d.world ]) c.1 in
      let told : with_coroutine T (codes "status") (object a_coroutine co) (λ co c. gives_one T (calls.text (status_of c))) ≡ now_in T (gives_back word) = ap (λ o. elim o as (λ _. TalkWorld) [ None ↦ breaks T | Some c ↦ gives_one T (calls.text (status_of c)) ]) p.2 in
      let same : known (string (status_word (moves.status_of c.0))) ∷ [] ≡ word = ap (λ w. calls.text w ∷ []) (same_word runs c.0 p.0 p.1 p.4) in
      status_by (object a_coroutine co) e
      (subst (λ o. Leads library M.printed (with_coroutine T (codes "status") (object a_coroutine co) (λ co c. gives_one T (calls.text (status_of c)))) o) (sym ran)
      (subst (λ X. Leads library M.printed X (run hand_over (env ++ [] ++ []) (record M { moving = known (string (status_word (moves.status_of c.0))) ∷ [] }))) (sym told)
      (subst (λ ws. Leads library M.printed (now_in T (gives_back word)) (run hand_over (env ++ [] ++ []) (record M { moving = ws }))) (sym same) (hands_here library primitives M T k (env ++ [] ++ []) word))))
    where
      N : World
      N = record M { moving = [] }
  status_any (known p) e = status_by (known p) e (raises_so library primitives M T k (wrong_type 1 (codes "status") (codes "coroutine") (shape (known p))) (M.moving ++ []))
  status_any (object a_table n) e = status_by (object a_table n) e (raises_so library primitives M T k (wrong_type 1 (codes "status") (codes "coroutine") (shape (object a_table n))) (M.moving ++ []))
  status_any (object a_function n) e = status_by (object a_function n) e (raises_so library primitives M T k (wrong_type 1 (codes "status") (codes "coroutine") (shape (object a_function n))) (M.moving ++ []))

pub resume_leads : (builds : Builds Prototype) → PrimitiveJoined builds resume_row coroutine_resume
resume_leads builds library primitives M T k = resume_any builds library primitives M T k (nth M.moving 0) refl

pub close_leads : (builds : Builds Prototype) → PrimitiveJoined builds close_row coroutine_close
close_leads builds library primitives M T k = close_any builds library primitives M T k (nth M.moving 0) refl

pub status_leads : (builds : Builds Prototype) → PrimitiveJoined builds status_row coroutine_status
status_leads builds library primitives M T k = status_any builds library primitives M T k (nth M.moving 0) refl
