-- A coroutine gives way to the one that resumed it, and one goes into another.
use Rattle.std.proofs.Common.{ℕ, zero, suc, ◌≡◌, ◌≢◌, ⊎_elim, List, [], ◌∷◌, ◌++◌, length, Option, Some, None, refl, sym, ap, subst, ◌∙◌, arith, Bool, true, false}
use Rattle.std.specs.Prelude.{slice_get, slice_set, cond, nat_eq}
use Rattle.std.proofs.lemmas.Bool.{cases_eq}
use Rattle.int_core.specs.Value.{Value, bind, last, without_last}
use Rattle.machine_core.specs.World as machine
use Rattle.machine_core.specs.World.{Cell, closed, open_at, LuaFrame, lua, in_progress, frames_of, stack_of, running_frames}
use Rattle.machine_core.specs.Moves.{Made, made, Told, move, suspend, suspend_running, back_to_resumer, awake, runs_main}
use Rattle.lua_meaning.specs.World as talk
use Rattle.lua_meaning.specs.World.{gives_back}
use Rattle.lua_meaning.specs.Calls.{back_to, leaves_coroutine, frames_in, yields, truth}
use Rattle.machine_core.specs.Talk.{State}
use Rattle.list_laws.proofs.Ends.{upward, length_upward, last_is, without_last_is}
use Rattle.list_laws.proofs.Items.{get_set_same, get_set_other}
use Rattle.list_laws.proofs.Tests.{eq_not}
use Rattle.list_laws.specs.Held.{Held}
use Rattle.machine_means.specs.Joined.{TalkFrame, TalkWorld, Stacks, CoroutinePair, AllThree, CoroutinesPair, CellsPair, Joined}
use Rattle.machine_means.proofs.CellWrites.{all3_at, all3_first}
use Rattle.machine_means.proofs.Held.{reverse_is}

abbrev pub Never : List machine.Frame → List Held → Type 0
Never frames hs = ⊥

-- no other coroutine runs
abbrev pub OnlyRuns : List machine.Coroutine → ℕ → Type 0
OnlyRuns cs co = (j : ℕ) (frames : List machine.Frame) → slice_get cs j ≡ Some (in_progress frames) → j ≡ co

module _ (fs : List machine.Function) (vs : List Value) where
  apart_runs : (run run' : List machine.Frame → List Held → Type 0) (x : machine.Coroutine) (y : talk.Coroutine State) (hs : List Held) → ((frames : List machine.Frame) → x ≡ in_progress frames → ⊥) → CoroutinePair fs vs run x y hs → CoroutinePair fs vs run' x y hs
  apart_runs run run' (machine.fresh a) (talk.fresh b) hs n k = k
  apart_runs run run' (machine.suspended frames) (talk.suspended ts) hs n k = k
  apart_runs run run' (in_progress frames) talk.running hs n k = absurd (n frames refl)
  apart_runs run run' (machine.normal frames) (talk.normal ts) hs n k = k
  apart_runs run run' machine.dead talk.dead hs n k = k
  apart_runs run run' (machine.failed e p) (talk.failed d q) hs n k = k
  apart_runs run run' _ _ hs n k = absurd k

  pub all3_apart : (run run' : List machine.Frame → List Held → Type 0) (p : Option machine.Coroutine) (q : Option (talk.Coroutine State)) (s : Option (List Held)) → ((frames : List machine.Frame) → p ≡ Some (in_progress frames) → ⊥) → AllThree (CoroutinePair fs vs run) p q s → AllThree (CoroutinePair fs vs run') p q s
  all3_apart run run' (Some a) (Some b) (Some c) n k = apart_runs run run' a b c (λ frames e. n frames (ap Some e)) k
  all3_apart run run' None None None n k = tt
  all3_apart run run' (Some a) (Some b) None n k = absurd k
  all3_apart run run' (Some a) None (Some c) n k = absurd k
  all3_apart run run' (Some a) None None n k = absurd k
  all3_apart run run' None (Some b) (Some c) n k = absurd k
  all3_apart run run' None (Some b) None n k = absurd k
  all3_apart run run' None None (Some c) n k = absurd k

  -- one coroutine becomes another kind; where it was the one that ran, none runs. What it holds may change
  pub co_put : (run run' : List machine.Frame → List Held → Type 0) (cs : List machine.Coroutine) (ds : List (talk.Coroutine State)) (hss : List (List Held)) (co : ℕ) (x x' : machine.Coroutine) (y y' : talk.Coroutine State) (hs hs' : List Held)
      → ((j : ℕ) (frames : List machine.Frame) → slice_get cs j ≡ Some (in_progress frames) → co ≢ j → ⊥) → slice_get cs co ≡ Some x → slice_get ds co ≡ Some y → slice_get hss co ≡ Some hs
      → CoroutinePair fs vs run' x' y' hs' → CoroutinesPair fs vs run cs ds hss → CoroutinesPair fs vs run' (slice_set cs co x') (slice_set ds co y') (slice_set hss co hs')
  co_put run run' cs ds hss co x x' y y' hs hs' only e f g k q j = ⊎_elim
      (λ d. all3_at (CoroutinePair fs vs run') (slice_get (slice_set cs co x') j) (slice_get (slice_set ds co y') j) (slice_get (slice_set hss co hs') j) x' y' hs'
      (ap (slice_get (slice_set cs co x')) (sym d) ∙ get_set_same cs co x x' e) (ap (slice_get (slice_set ds co y')) (sym d) ∙ get_set_same ds co y y' f) (ap (slice_get (slice_set hss co hs')) (sym d) ∙ get_set_same hss co hs hs' g) k)
      (λ n. subst (λ p. AllThree (CoroutinePair fs vs run') p (slice_get (slice_set ds co y') j) (slice_get (slice_set hss co hs') j)) (sym (get_set_other cs co j x' n))
      (subst (λ p. AllThree (CoroutinePair fs vs run') (slice_get cs j) p (slice_get (slice_set hss co hs') j)) (sym (get_set_other ds co j y' n))
      (subst (λ p. AllThree (CoroutinePair fs vs run') (slice_get cs j) (slice_get ds j) p) (sym (get_set_other hss co j hs' n))
      (all3_apart run run' (slice_get cs j) (slice_get ds j) (slice_get hss j) (λ frames e. only j frames e n) (q j)))))
      (cases_eq co j)

pub set_same : {A : Type 0} (xs : List A) (i : ℕ) (x : A) → slice_get xs i ≡ Some x → slice_set xs i x ≡ xs
set_same [] i x e = refl
set_same (y ∷ xs) zero x e = let d : y ≡ x = cc in ap (λ y. y ∷ xs) (sym d)
set_same (y ∷ xs) (suc i) x e = ap (λ l. y ∷ l) (set_same xs i x e)

pub never_runs : (fs : List machine.Function) (vs : List Value) (p : Option machine.Coroutine) (q : Option (talk.Coroutine State)) (s : Option (List Held)) (frames : List machine.Frame) → p ≡ Some (in_progress frames) → AllThree (CoroutinePair fs vs Never) p q s → ⊥
never_runs fs vs p q s frames e k =
    let r = all3_first (CoroutinePair fs vs Never) (in_progress frames) p q s e k in never r.0 r.1 r.4
  where
    never : (y : talk.Coroutine State) (hs : List Held) → CoroutinePair fs vs Never (in_progress frames) y hs → ⊥
    never talk.running hs k = k
    never (talk.fresh b) hs k = k
    never (talk.suspended ts) hs k = k
    never (talk.normal ts) hs k = k
    never talk.dead hs k = k
    never (talk.failed d q) hs k = k

pub normal_is : (fs : List machine.Function) (vs : List Value) (run : List machine.Frame → List Held → Type 0) (below : List machine.Frame) (y : talk.Coroutine State) (hs : List Held) → CoroutinePair fs vs run (machine.normal below) y hs → (ts : List TalkFrame) × (y ≡ talk.normal ts) × Stacks false fs vs below ts hs
normal_is fs vs run below (talk.normal ts) hs k = (ts, refl, k)
normal_is fs vs run below _ hs k = absurd k

pub running_is : (fs : List machine.Function) (vs : List Value) (run : List machine.Frame → List Held → Type 0) (frames : List machine.Frame) (y : talk.Coroutine State) (hs : List Held) → CoroutinePair fs vs run (in_progress frames) y hs → (y ≡ talk.running) × run frames hs
running_is fs vs run frames talk.running hs k = (refl, k)
running_is fs vs run frames _ hs k = absurd k

-- a coroutine that does not run becomes another kind, and the others stay
module _ (fs : List machine.Function) (vs : List Value) (run : List machine.Frame → List Held → Type 0) where
  pub co_put_apart : (cs : List machine.Coroutine) (ds : List (talk.Coroutine State)) (hss : List (List Held)) (co : ℕ) (x x' : machine.Coroutine) (y y' : talk.Coroutine State) (hs hs' : List Held)
      → slice_get cs co ≡ Some x → slice_get ds co ≡ Some y → slice_get hss co ≡ Some hs → CoroutinePair fs vs run x' y' hs' → CoroutinesPair fs vs run cs ds hss → CoroutinesPair fs vs run (slice_set cs co x') (slice_set ds co y') (slice_set hss co hs')
  co_put_apart cs ds hss co x x' y y' hs hs' e f g k q j = ⊎_elim
      (λ d. all3_at (CoroutinePair fs vs run) (slice_get (slice_set cs co x') j) (slice_get (slice_set ds co y') j) (slice_get (slice_set hss co hs') j) x' y' hs'
      (ap (slice_get (slice_set cs co x')) (sym d) ∙ get_set_same cs co x x' e) (ap (slice_get (slice_set ds co y')) (sym d) ∙ get_set_same ds co y y' f) (ap (slice_get (slice_set hss co hs')) (sym d) ∙ get_set_same hss co hs hs' g) k)
      (λ n. subst (λ p. AllThree (CoroutinePair fs vs run) p (slice_get (slice_set ds co y') j) (slice_get (slice_set hss co hs') j)) (sym (get_set_other cs co j x' n))
      (subst (λ p. AllThree (CoroutinePair fs vs run) (slice_get cs j) p (slice_get (slice_set hss co hs') j)) (sym (get_set_other ds co j y' n))
      (subst (λ p. AllThree (CoroutinePair fs vs run) (slice_get cs j) (slice_get ds j) p) (sym (get_set_other hss co j hs' n)) (q j))))
      (cases_eq co j)

-- a coroutine that another one resumed gives way: frames and cells stay as they are, open ones included
module _ (M : machine.World) (T : TalkWorld) (co by : ℕ) (rest : List ℕ) (chain : T.chain ≡ co ∷ by ∷ rest) (apart : co ≢ by)
    (frames below : List machine.Frame) (lax : Bool) (k : Joined lax M T)
    (runs : slice_get M.coroutines co ≡ Some (in_progress frames)) (only : OnlyRuns M.coroutines co)
    (waits : slice_get M.coroutines by ≡ Some (machine.normal below)) where
  pub chain_is : M.chain ≡ upward rest ++ by ∷ [] ++ co ∷ []
  chain_is = k.chain ∙ reverse_is T.chain ∙ ap upward chain

  pub stack_is : stack_of M ≡ Some (record { coroutine = co; frames = frames })
  stack_is =
      ap (λ c. bind (last c) (λ co. bind (bind (slice_get M.coroutines co) running_frames) (λ frames. Some (record { coroutine = co; frames = frames })))) chain_is
      ∙ ap (λ o. bind o (λ co. bind (bind (slice_get M.coroutines co) running_frames) (λ frames. Some (record { coroutine = co; frames = frames })))) (last_is (upward rest ++ by ∷ []) co)
      ∙ ap (λ o. bind (bind o running_frames) (λ frames. Some (record { coroutine = co; frames = frames }))) runs

  -- the running coroutine is left as `c`, and the one that resumed it goes on
  abbrev pub given_way : machine.Coroutine → machine.World
  given_way c = record M { coroutines = slice_set (slice_set M.coroutines co c) by (in_progress below); chain = upward rest ++ by ∷ [] }

  pub back_is : (c : machine.Coroutine) (ws : List Cell) (mv : List Value) → back_to_resumer (Rattle.machine_core.specs.Moves.put_coroutine (record M { cells = ws; moving = mv }) co c) ≡ record (given_way c) { cells = ws; moving = mv }
  unfolding back_to_resumer Rattle.machine_core.specs.Moves.put_coroutine
  back_is c ws mv =
      let e : without_last M.chain ≡ upward rest ++ by ∷ [] = ap without_last chain_is ∙ without_last_is (upward rest ++ by ∷ []) co in
      ap (λ (chain : List ℕ). elim (last {A = ℕ} chain) as (λ _. machine.World) [ None ↦ record M { coroutines = slice_set M.coroutines co c; chain = chain; cells = ws; moving = mv } | Some j ↦ record M { coroutines = slice_set (slice_set M.coroutines co c) j (in_progress (awake (slice_get (slice_set M.coroutines co c) j))); chain = chain; cells = ws; moving = mv } ]) e
      ∙ ap (λ (o : Option ℕ). elim o as (λ _. machine.World) [ None ↦ record M { coroutines = slice_set M.coroutines co c; chain = upward rest ++ by ∷ []; cells = ws; moving = mv } | Some j ↦ record M { coroutines = slice_set (slice_set M.coroutines co c) j (in_progress (awake (slice_get (slice_set M.coroutines co c) j))); chain = upward rest ++ by ∷ []; cells = ws; moving = mv } ]) (last_is (upward rest) by)
      ∙ ap (λ (o : Option machine.Coroutine). record M { coroutines = slice_set (slice_set M.coroutines co c) by (in_progress (awake o)); chain = upward rest ++ by ∷ []; cells = ws; moving = mv }) (get_set_other M.coroutines co by c apart ∙ waits)

  -- what the talk does
  pub left_is : (c : talk.Coroutine State) (vs : List Value) → leaves_coroutine T c vs
      ≡ record T { coroutines = slice_set (slice_set T.coroutines co c) by talk.running; chain = by ∷ rest; frames = frames_in (slice_get T.coroutines by); now = gives_back vs }
  left_is c vs = ap (back_to T c vs) chain

  -- so a yield, an end and a failure differ in what the coroutine is left as, in what it holds from then on, and in the cells
  module _ (c : machine.Coroutine) (d : talk.Coroutine State) (hs hs' : List Held) (ws : List Cell) (held : slice_get k.held co ≡ Some hs) (cells : CellsPair ws T.cells (slice_set k.held co hs'))
      (left_as : CoroutinePair M.functions T.cells Never c d hs') (vs : List Value) where
    abbrev hss' : List (List Held)
    hss' = slice_set k.held co hs'

    parked : CoroutinesPair M.functions T.cells Never (slice_set M.coroutines co c) (slice_set T.coroutines co d) hss'
    parked =
        let p = all3_first (CoroutinePair M.functions T.cells (λ frames hs. Stacks lax M.functions T.cells frames T.frames hs)) (in_progress frames) (slice_get M.coroutines co) (slice_get T.coroutines co) (slice_get k.held co) runs (k.coroutines co) in
        co_put M.functions T.cells (λ frames hs. Stacks lax M.functions T.cells frames T.frames hs) Never M.coroutines T.coroutines k.held co (in_progress frames) c p.0 d hs hs'
        (λ j fr e n. n (sym (only j fr e))) runs p.2 held left_as k.coroutines

    resumer : (y : talk.Coroutine State) × (z : List Held) × (slice_get T.coroutines by ≡ Some y) × (slice_get k.held by ≡ Some z) × CoroutinePair M.functions T.cells (λ frames hs. Stacks lax M.functions T.cells frames T.frames hs) (machine.normal below) y z
    resumer = all3_first (CoroutinePair M.functions T.cells (λ frames hs. Stacks lax M.functions T.cells frames T.frames hs)) (machine.normal below) (slice_get M.coroutines by) (slice_get T.coroutines by) (slice_get k.held by) waits (k.coroutines by)

    pub gives_way : Joined false (record (given_way c) { cells = ws }) (leaves_coroutine T d vs)
    gives_way =
        let r = resumer in
        let y = normal_is M.functions T.cells (λ frames hs. Stacks lax M.functions T.cells frames T.frames hs) below r.0 r.1 r.4 in
        let f : frames_in (slice_get T.coroutines by) ≡ y.0 = ap frames_in r.2 ∙ ap (λ y. frames_in (Some y)) y.1 in
        subst (λ U. Joined false (record (given_way c) { cells = ws }) U) (sym (left_is d vs)) (record {
          heap = k.heap;
          globals = k.globals;
          printed = k.printed;
          fuel = k.fuel;
          chain = sym (reverse_is (by ∷ rest));
          functions = k.functions;
          held = hss';
          cells = cells;
          coroutines =
              subst (λ hss. CoroutinesPair M.functions T.cells (λ fr hs. Stacks false M.functions T.cells fr (frames_in (slice_get T.coroutines by)) hs) (slice_set (slice_set M.coroutines co c) by (in_progress below)) (slice_set (slice_set T.coroutines co d) by talk.running) hss)
              (set_same hss' by r.1 (get_set_other k.held co by hs' apart ∙ r.3))
              (co_put M.functions T.cells Never (λ fr hs. Stacks false M.functions T.cells fr (frames_in (slice_get T.coroutines by)) hs) (slice_set M.coroutines co c) (slice_set T.coroutines co d) hss' by (machine.normal below) (in_progress below) r.0 talk.running r.1 r.1
              (λ j fr e n. never_runs M.functions T.cells (slice_get (slice_set M.coroutines co c) j) (slice_get (slice_set T.coroutines co d) j) (slice_get hss' j) fr e (parked j))
              (get_set_other M.coroutines co by c apart ∙ waits) (get_set_other T.coroutines co by d apart ∙ r.2) (get_set_other k.held co by hs' apart ∙ r.3)
              (subst (λ ts. Stacks false M.functions T.cells below ts r.1) (sym f) y.2) parked);
        })

  pub own : (hs : List Held) × (slice_get k.held co ≡ Some hs) × Stacks lax M.functions T.cells frames T.frames hs
  own =
      let p = all3_first (CoroutinePair M.functions T.cells (λ frames hs. Stacks lax M.functions T.cells frames T.frames hs)) (in_progress frames) (slice_get M.coroutines co) (slice_get T.coroutines co) (slice_get k.held co) runs (k.coroutines co) in
      (p.1, p.3, (running_is M.functions T.cells (λ frames hs. Stacks lax M.functions T.cells frames T.frames hs) frames p.0 p.1 p.4).1)

  -- it yields: the frames stand aside with all their open cells
  pub yielded : lax ≡ false → (vs : List Value) → Joined false (given_way (machine.suspended frames)) (leaves_coroutine T (talk.suspended T.frames) vs)
  yielded e vs =
      let o = own in
      gives_way (machine.suspended frames) (talk.suspended T.frames) o.0 o.0 M.cells o.1 (subst (λ hss. CellsPair M.cells T.cells hss) (sym (set_same k.held co o.0 o.1)) k.cells)
      (subst (λ lax. Stacks lax M.functions T.cells frames T.frames o.0) e o.2) vs

  -- as the move and the primitive do it
  pub yield_move : (env : List Value) → move suspend env M ≡ made (given_way (machine.suspended frames)) [] false
  unfolding suspend_running
  yield_move env =
      ap (λ o. bind o (λ s. made (back_to_resumer (Rattle.machine_core.specs.Moves.put_coroutine M s.coroutine (machine.suspended s.frames))) [] (runs_main M))) stack_is
      ∙ ap (λ W. made W [] (runs_main M)) (back_is (machine.suspended frames) M.cells M.moving)
      ∙ ap (λ b. made (given_way (machine.suspended frames)) [] b) main_no
    where
      main_no : runs_main M ≡ false
      main_no = ap (λ c. nat_eq (length c) 1) chain_is ∙ (let e = length_upward (co ∷ by ∷ rest) in ap (λ n. nat_eq n 1) e) ∙ eq_not (suc (suc (length rest))) 1 (λ z. omega (arith, z))

  pub yield_talk : (vs : List Value) → yields T vs ≡ leaves_coroutine T (talk.suspended T.frames) (truth true ∷ vs)
  yield_talk vs = ap (λ c. cond (elim c [ [] ↦ true | co ∷ chain ↦ elim chain [ [] ↦ true | _ ∷ _ ↦ false ] ]) (talk.now_in T (talk.ends (talk.yielded vs))) (leaves_coroutine T (talk.suspended T.frames) (truth true ∷ vs))) chain
