-- A Lua frame on top that waits hears results, an error, or that what it asked for cannot be called.
use Rattle.std.proofs.Common.{ℕ, ◌<◌, ◌≡◌, ◌⊎◌, inl, inr, ⊎_elim, List, [], ◌∷◌, ◌++◌, length, Option, Some, None, refl, sym, ap, subst, ◌∙◌, arith, Bool, true, false}
use Rattle.std.specs.Prelude.{slice_get, slice_set}
use Rattle.code_core.specs.Prototype.{Prototype}
use Rattle.int_core.specs.Value.{Value, bind, last}
use Rattle.int_core.specs.Limits.{greatest_depth}
use Rattle.int_core.specs.Ask.{Answer, Reply, values, faulted, left, brought}
use Rattle.list_laws.specs.Held.{Held}
use Rattle.list_laws.proofs.Ends.{upward, without_last_is, length_upward}
use Rattle.machine_core.specs.World.{Function, Wait, running, Activation, LuaFrame, Frame, lua, in_progress, World, put_top, put_frames}
use Rattle.machine_core.specs.InstructionRows.{after, told_values, fails}
use Rattle.machine_core.specs.Moves.{TopShape, lua_top, top_shape, made, see_top, not_entered, go, unwinding, Outcome, trapped, Row, act, run}
use Rattle.machine_core.specs.FrameRows.{by_asking, goes_on_by, raises, unwound, refused_under as machine_refuses, after_asked}
use Rattle.machine_core.specs.MachineStep.{woken, step_by}
use Rattle.machine_core.specs.Talk.{State, amid}
use Rattle.means_steps.proofs.Texts.{Good}
use Rattle.means_steps.proofs.RowsGood.{rest_at_good, fails_good}
use Rattle.lua_meaning.specs.World as talk
use Rattle.lua_meaning.specs.World.{Asker, talking, waiting, raising, talks, gives_back, unwinds, shared_out, answered}
use Rattle.lua_meaning.specs.Calls as calls_in
use Rattle.lua_meaning.specs.Step.{Primitives, tick, tick_by}
use Rattle.code_means.specs.Runs.{codes_run}
use Rattle.machine_sound.specs.Sound.{Solid}
use Rattle.machine_sound.proofs.Frames.{stack_is}
use Rattle.machine_means.specs.Joined.{TalkFrame, TalkWorld, Dressed, IsHeard, Asleep, RegistersPair, LuaPair, Pair, Stacks, Joined}
use Rattle.machine_means.specs.Stands.{refused_under}
use Rattle.machine_means.proofs.Held.{reverse_is}
use Rattle.machine_means.proofs.Pending.{both_first}
use Rattle.machine_means.proofs.Switches.{OnlyRuns, running_is}
use Rattle.machine_means.proofs.Frames.{OnTop, on_top, found}
use Rattle.machine_means.proofs.Running.{alone}
use Rattle.means_steps.proofs.Middle.{Around, Middle, frame, framed, others_of}
use Rattle.means_steps.proofs.TopMoves.{stack_at, with_top}
use Rattle.means_steps.specs.Steps.{Leads}
use Rattle.means_steps.proofs.Answered.{fixed_of, told_left, reply_leads}
use Rattle.means_steps.proofs.Rows.{row_leads}
use Rattle.means_steps.proofs.Steps.{cells_there, top_steps, wakes, knows_told}

-- a Lua frame on top that waits, in joined worlds
module _ (primitives : ℕ) (M : World) (T : TalkWorld) (lax : Bool) (solid : Solid primitives M) (co : ℕ) (frames : List Frame) (at_end : last M.chain ≡ Some co) (going : slice_get M.coroutines co ≡ Some (in_progress frames)) (joined : Joined lax M T) where
  abbrev over : List Frame → List Held → Type 0
  over fr hs = Stacks lax M.functions T.cells fr T.frames hs

  only : OnlyRuns M.coroutines co
  only = alone primitives M solid co at_end

  -- the activation is told of `lo` alone
  pub record Listens (fr : LuaFrame) (lo : Bool) : Type 0 where
    pub asker : Asker State
    pub held : Held
    pub below : List Frame
    pub ts : List TalkFrame
    pub a : Activation
    pub asleep : Asleep lo M.functions fr asker held a
    pub registers : RegistersPair T.cells held a.registers fr.own.registers
    pub g' : talk.Function Prototype
    pub dressed : Dressed asleep.function g'
    pub middle : Middle M T T.cells co fr.function asleep.function g' fr.wait fr.own held below ts
    pub is_top : (T.frames ≡ waiting asker ∷ ts) ⊎ ((T.frames ≡ raising asker ∷ ts) × (lo ≡ true))

  listens_so : (fr : LuaFrame) (lo : Bool) (x : OnTop M T co frames lax joined going only (lua fr)) (asker : Asker State) → LuaPair lo M.functions T.cells fr asker x.h → (T.frames ≡ waiting asker ∷ x.ts) ⊎ ((T.frames ≡ raising asker ∷ x.ts) × (lo ≡ true)) → Listens fr lo
  listens_so fr lo x asker p top =
      let s = p.1 in
      let g = s.function in
      let d = both_first Dressed g (slice_get M.functions fr.function) (slice_get T.functions fr.function) s.there (joined.functions fr.function) in
      let f = found M T co frames lax joined going only in
      let r = running_is M.functions T.cells over frames f.0 f.1 f.4 in
      let below : List Frame = x.below.ms in
      let up : x.rest ≡ upward below = x.below.listed ∙ reverse_is below in
      record {
        asker = asker;
        held = x.h;
        below = below;
        ts = x.ts;
        a = p.0;
        asleep = s;
        registers = p.2;
        g' = d.0;
        dressed = d.2;
        middle = record {
          functions = joined.functions;
          there = s.there;
          talks_there = d.1;
          in_range = cells_there primitives M solid fr.function g s.there;
          not_own = s.not_own;
          last = at_end;
          runs = going ∙ ap (λ fr. Some (in_progress fr)) (x.frames_are ∙ ap (λ xs. xs ++ lua fr ∷ []) up);
          talks = f.2 ∙ ap Some r.0;
          held = joined.held;
          more = x.hs;
          holds = x.holds;
          cells = joined.cells;
          waits = x.below.below;
          depth = subst (λ n. n < greatest_depth) (ap (λ l. length l) up ∙ length_upward below) x.depth;
          others = others_of M.functions T.cells co M.coroutines T.coroutines joined.held over only joined.coroutines;
        };
        is_top = top;
      }

  -- by what stands beside it
  pub listens : (fr : LuaFrame) → last frames ≡ Some (lua fr) → (lo : Bool) × Listens fr lo × (lax ≡ false → lo ≡ false)
  listens fr e = let x = on_top M T co frames lax joined going only (lua fr) e in from x.t lax refl x x.talks_are x.pair
    where
      from : (t : TalkFrame) (lax' : Bool) → lax ≡ lax' → (x : OnTop M T co frames lax joined going only (lua fr)) → T.frames ≡ t ∷ x.ts → Pair lax' M.functions T.cells (lua fr) t x.h → (lo : Bool) × Listens fr lo × (lax ≡ false → lo ≡ false)
      from (waiting asker) lax' d x is p = (false, listens_so fr false x asker p (inl is), λ _. refl)
      from (raising asker) true d x is p = (true, listens_so fr true x asker p (inr (is, refl)), λ q. (let z : true ≡ false = sym d ∙ q in z))
      from (raising asker) false d x is p = absurd p
      from (talking f st) lax' d x is p = absurd p
      from Rattle.lua_meaning.specs.World.protected lax' d x is p = absurd p
      from (Rattle.lua_meaning.specs.World.handled_by h) lax' d x is p = absurd p
      from Rattle.lua_meaning.specs.World.handling lax' d x is p = absurd p
      from (talk.closing e us) lax' d x is p = absurd p

  module _ (known : Primitives Prototype) (shown : List ℕ) (around : Around M T) (said : T.printed ≡ shown) (fr : LuaFrame) (lo : Bool) (x : Listens fr lo) where
    -- a reply reaches it; M1 is the machine's world then, in which its wait is u
    pub delivered : (r : Reply) → IsHeard lo r → (u : Wait Value) (M1 : World) (T1 : TalkWorld) → T1.printed ≡ shown → Around M1 T1 → Middle M1 T1 T1.cells co fr.function x.asleep.function x.g' u fr.own x.held x.below x.ts → RegistersPair T1.cells x.held x.a.registers fr.own.registers
        → Good x.asleep.function.code fr.own.pc u (length (told_values fr.wait r)) (after fr.wait x.asleep.function.code fr.own.pc r)
        → Leads known shown (answered T1 x.asker r x.ts) (run (goes_on_by (after fr.wait x.asleep.function.code fr.own.pc r)) (told_values fr.wait r) M1)
    delivered r i u M1 T1 said1 around1 k p gd =
        let a : Activation = x.a in
        let code : Prototype = x.asleep.function.code in
        let fixed = fixed_of a fr.own x.asleep.own in
        let gone : List (ℕ × Value) = x.asleep.gone in
        let env : List Value = told_values fr.wait r in
        let out : Outcome = run (goes_on_by (after fr.wait code fr.own.pc r)) env M1 in
        let answer : Answer = record { reply = r; shared = shared_out x.asker.shared T1.cells; cell = 0 } in
        subst (λ f. Leads known shown (record T1 { frames = talking f (x.asker.goes answer) ∷ x.ts; now = talks }) out) (sym x.asleep.number)
        (subst (λ s. Leads known shown (record T1 { frames = talking fr.function s ∷ x.ts; now = talks }) out) (sym (x.asleep.next answer i))
        (subst (λ pc. Leads known shown (record T1 { frames = talking fr.function (amid (after fr.wait code pc r) env (record a { registers = brought x.held (shared_out x.asker.shared T1.cells) a.registers }) (record { held = x.held; gone = [] })) ∷ x.ts; now = talks }) out) (sym fixed.pc)
        (subst (λ sh. Leads known shown (record T1 { frames = talking fr.function (amid (after fr.wait code fr.own.pc r) env (record a { registers = brought x.held (shared_out sh T1.cells) a.registers }) (record { held = x.held; gone = [] })) ∷ x.ts; now = talks }) out) (sym x.asleep.shares)
        (reply_leads known shown by_asking fr.function x.asleep.function x.g' x.dressed fr.own.pc u (after fr.wait code fr.own.pc r) (row_leads known shown by_asking fr.function x.asleep.function x.g' x.dressed fr.own.pc u (after fr.wait code fr.own.pc r)) env a fr.own (record { held = x.held; gone = gone }) M1 T1 co x.below x.ts fixed fixed.pc gd said1 around1 k p))))

heard_left : (lo : Bool) (e : Value) → IsHeard lo (left e)
heard_left true e = tt
heard_left false e = tt

heard_all : (lo : Bool) → lo ≡ false → (r : Reply) → IsHeard lo r
heard_all false e r = tt
heard_all true e r = absurd (cc)

-- one that waits, and raised no error, stands beside an asker
waits_so : (lo : Bool) (T : TalkWorld) (asker : Asker State) (ts : List TalkFrame) → lo ≡ false → (T.frames ≡ waiting asker ∷ ts) ⊎ ((T.frames ≡ raising asker ∷ ts) × (lo ≡ true)) → T.frames ≡ waiting asker ∷ ts
waits_so lo T asker ts e top = ⊎_elim (λ p. p) (λ p. absurd (let z : true ≡ false = sym p.1 ∙ e in cc)) top

left_there : (T : TalkWorld) (asker : Asker State) (ts : List TalkFrame) (lo : Bool) (e : Value) → (T.frames ≡ waiting asker ∷ ts) ⊎ ((T.frames ≡ raising asker ∷ ts) × (lo ≡ true)) → calls_in.unwound codes_run T e T.frames ≡ answered T asker (left e) ts
left_there T asker ts lo e (inl p) = subst (λ fs. calls_in.unwound codes_run T e fs ≡ answered T asker (left e) ts) (sym p) refl
left_there T asker ts lo e (inr p) = subst (λ fs. calls_in.unwound codes_run T e fs ≡ answered T asker (left e) ts) (sym p.0) refl

pub around_of : (lax : Bool) (M : World) (T : TalkWorld) → Joined lax M T → Around M T
around_of lax M T k = record { heap = k.heap; globals = k.globals; printed = k.printed; fuel = k.fuel; chain = k.chain }

module _ (rows : ℕ → Row) (known : Primitives Prototype) (primitives : ℕ) (M : World) (T : TalkWorld) (solid : Solid primitives M) (co : ℕ) (frames : List Frame) (at_end : last M.chain ≡ Some co) (going : slice_get M.coroutines co ≡ Some (in_progress frames)) (fr : LuaFrame) (on_top_is : last frames ≡ Some (lua fr)) where
  -- results reach it
  woken_is : (g : Function) (below : List Frame) → woken M (stack_at co (lua fr ∷ below)) fr ≡ record (with_top M co fr.function fr.wait fr.own g below M.cells running fr.own) { moving = [] }
  unfolding woken put_top put_frames
  woken_is g below = ap (λ xs. record M { coroutines = slice_set M.coroutines co (in_progress (xs ++ lua (frame fr.function running fr.own) ∷ [])); moving = [] }) (without_last_is (upward below) (lua fr))

  pub results_heard : Joined false M T → T.now ≡ gives_back M.moving → Leads known M.printed (tick codes_run known T) (step_by rows go M)
  results_heard joined now = from (listens primitives M T false solid co frames at_end going joined fr on_top_is)
    where
      from : (lo : Bool) × Listens primitives M T false solid co frames at_end going joined fr lo × (false ≡ false → lo ≡ false) → Leads known M.printed (tick codes_run known T) (step_by rows go M)
      from (lo, x, quiet) =
          let g : Function = x.asleep.function in
          let m = x.middle in
          let is = waits_so lo T x.asker x.ts (quiet refl) x.is_top in
          let mv : List Value = M.moving in
          let M1 : World = record (with_top M co fr.function fr.wait fr.own g x.below M.cells running fr.own) { moving = [] } in
          let out : Outcome = run (goes_on_by (after fr.wait g.code fr.own.pc (values mv))) (told_values fr.wait (values mv)) M1 in
          let stepped : step_by rows go M ≡ out =
          ap (λ o. elim o as (λ _. Outcome) [ None ↦ trapped | Some o ↦ o ]) (top_steps M co fr.function fr.wait fr.own g x.below m.last m.runs m.there)
          ∙ wakes M (stack_at co (lua fr ∷ x.below)) fr g.code x.asleep.waits
          ∙ ap (λ W. run (goes_on_by (after fr.wait g.code fr.own.pc (values mv))) (told_values fr.wait (values mv)) W) (woken_is g x.below) in
          let around : Around M T = around_of false M T joined in
          let k1 : Middle M1 T T.cells co fr.function g x.g' running fr.own x.held x.below x.ts = framed M.chain M.functions M.cells M.coroutines T.functions T.coroutines T.cells co fr.function g x.g' fr.wait fr.own x.held x.below x.ts m running fr.own in
          let l = delivered primitives M T false solid co frames at_end going joined known M.printed around (sym joined.printed) fr lo x (values mv) (heard_all lo (quiet refl) (values mv)) running M1 T (sym joined.printed) around k1 x.registers (rest_at_good fr.wait g.code fr.own.pc (length (told_values fr.wait (values mv))) (knows_told fr.wait mv)) in
          let ticked : tick codes_run known T ≡ answered T x.asker (values mv) x.ts = ap (λ nw. tick_by codes_run known nw T) now ∙ ap (λ fs. calls_in.handed codes_run T mv fs) is in
          subst (λ o. Leads known M.printed (tick codes_run known T) o) (sym stepped) (subst (λ X. Leads known M.printed X out) (sym ticked) l)

  seen : (row : TopShape → Row) → run (act see_top (λ _ top. row top)) [] M ≡ run (row lua_top) [] M
  seen row =
      ap (λ o. elim (bind (bind o (λ s. Some (top_shape M (last s.frames)))) (λ top. made {A = TopShape} M [] top)) as (λ _. Outcome) [ None ↦ trapped | Some d ↦ run (row d.told) ([] ++ d.values) d.world ]) (stack_is M co frames at_end going)
      ∙ ap (λ o. run (row (top_shape M o)) [] M) on_top_is

  -- an error reaches it
  pub error_heard : Joined true M T → (e : Value) → M.moving ≡ e ∷ [] → T.now ≡ unwinds e → Leads known M.printed (tick codes_run known T) (step_by rows unwinding M)
  error_heard joined e moves now = from (listens primitives M T true solid co frames at_end going joined fr on_top_is)
    where
      from : (lo : Bool) × Listens primitives M T true solid co frames at_end going joined fr lo × (true ≡ false → lo ≡ false) → Leads known M.printed (tick codes_run known T) (step_by rows unwinding M)
      from (lo, x, quiet) =
          let g : Function = x.asleep.function in
          let N : World = record M { moving = [] } in
          let out : Outcome = run (goes_on_by fails) (told_values fr.wait (left e)) N in
          let stepped : step_by rows unwinding M ≡ out = seen unwound ∙ ap (λ env. run (goes_on_by fails) env N) (moves ∙ sym (told_left fr.wait e)) in
          let around : Around M T = around_of true M T joined in
          let some_told : 0 < length (told_values fr.wait (left e)) = subst (λ (xs : List Value). 0 < length xs) (sym (told_left fr.wait e)) (omega arith) in
          let l = delivered primitives M T true solid co frames at_end going joined known M.printed around (sym joined.printed) fr lo x (left e) (heard_left lo e) fr.wait N T (sym joined.printed) around x.middle x.registers (fails_good g.code fr.own.pc fr.wait (length (told_values fr.wait (left e))) some_told) in
          let ticked : tick codes_run known T ≡ answered T x.asker (left e) x.ts = ap (λ nw. tick_by codes_run known nw T) now ∙ left_there T x.asker x.ts lo e x.is_top in
          subst (λ o. Leads known M.printed (tick codes_run known T) o) (sym stepped) (subst (λ X. Leads known M.printed X out) (sym ticked) l)

  -- what it asked for cannot be called; the budget may have become less
  pub refusal_heard : (joined : Joined false M T) (text : List ℕ) (m : ℕ) (env : List Value) → Leads known M.printed (refused_under T.frames text (record T { fuel = m })) (run (after_asked (not_entered text)) env (record M { fuel = m; moving = [] }))
  refusal_heard joined text m env = from (listens primitives M T false solid co frames at_end going joined fr on_top_is)
    where
      N : World
      N = record M { fuel = m; moving = [] }

      seen_so : run (after_asked (not_entered text)) env N ≡ run (raises text) (env ++ []) N
      seen_so =
          ap (λ o. elim (bind (bind o (λ s. Some (top_shape N (last s.frames)))) (λ top. made {A = TopShape} N [] top)) as (λ _. Outcome) [ None ↦ trapped | Some d ↦ run (machine_refuses d.told text) (env ++ d.values) d.world ]) (stack_is N co frames at_end going)
          ∙ ap (λ o. run (machine_refuses (top_shape N o) text) (env ++ []) N) on_top_is

      from : (lo : Bool) × Listens primitives M T false solid co frames at_end going joined fr lo × (false ≡ false → lo ≡ false) → Leads known M.printed (refused_under T.frames text (record T { fuel = m })) (run (after_asked (not_entered text)) env N)
      from (lo, x, quiet) =
          let g : Function = x.asleep.function in
          let V : TalkWorld = record T { fuel = m } in
          let is = waits_so lo T x.asker x.ts (quiet refl) x.is_top in
          let around : Around M T = around_of false M T joined in
          let around1 : Around N V = record { heap = around.heap; globals = around.globals; printed = around.printed; fuel = refl; chain = around.chain } in
          let l = delivered primitives M T false solid co frames at_end going joined known M.printed around (sym joined.printed) fr lo x (faulted text) (heard_all lo (quiet refl) (faulted text)) fr.wait N V (sym joined.printed) around1 x.middle x.registers tt in
          subst (λ fs. Leads known M.printed (refused_under fs text V) (run (after_asked (not_entered text)) env N)) (sym is)
          (subst (λ o. Leads known M.printed (answered V x.asker (faulted text) x.ts) o) (sym seen_so) l)
