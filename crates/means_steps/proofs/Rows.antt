-- Every text leads to the same in both worlds: one induction over it.
use Rattle.lua_meaning.specs.Step.{Primitives}
use Rattle.std.proofs.Common.{ℕ, zero, suc, ◌+◌, ◌≡◌, List, [], ◌∷◌, ◌++◌, length, drop, Option, Some, None, refl, sym, ap, subst, ◌∙◌, arith, Bool, true, false}
use Rattle.std.specs.Prelude.{slice_get, slice_set, cond, nat_le, map}
use Rattle.code_core.specs.Prototype.{Prototype}
use Rattle.int_core.specs.Value.{Value, last}
use Rattle.int_core.specs.Limits.{greatest_depth}
use Rattle.int_core.specs.Operations.{Operation, concat, Settled, found, ask, fault, cannot_arise, does, callee_of, Callee, callee, not_callable, greatest_chain}
use Rattle.int_core.specs.Ask.{Captured, values, faulted, brought, operates, calls_last, leaves as leaves_ask, returns, throws, shared_by}
use Rattle.list_laws.proofs.Ends.{upward, length_upward}
use Rattle.list_laws.proofs.Items.{append_nil, get_set_same}
use Rattle.list_laws.proofs.Values.{drop_front}
use Rattle.list_laws.proofs.Tests.{le_off}
use Rattle.machine_core.specs.World.{Function, Wait, Activation, Frame, lua, Coroutine, in_progress, World}
use Rattle.machine_core.specs.Text.{Arg, arg, args_of, read, Own, reads, tells, effect, fits, done, Given, results, thrown, Text, go_by, own as then_own, open_cell, quick, operate, call, tail_call, close, closable, raise, leave, trap}
use Rattle.machine_core.specs.InstructionRows.{rest_at, told_values}
use Rattle.machine_core.specs.Moves as moves
use Rattle.machine_core.specs.Moves.{Made, made, on_own, settle, enter_tail, leave_frame, cells_after, cells_done, named, called_tail, settled, top_shape, is_found, is_asked, is_fault, SettledShape, CallShape, Row, only, Outcome, trapped, run}
use Rattle.machine_core.specs.FrameRows.{When, expand_by, calls_row, prepares, raises, after_call, after_leaving}
use Rattle.machine_core.specs.Talk.{State, amid, heard, captured_done, marked}
use Rattle.means_steps.proofs.Alike.{Alike}
use Rattle.means_steps.proofs.Texts.{Reaches, GivesOne, effect_front, reads_nothing, plain_waits, plain_reach, plain_told, join_gives_one, rest_named}
use Rattle.means_steps.proofs.Local.{done_alike, done_pc}
use Rattle.lua_meaning.specs.World as talk
use Rattle.lua_meaning.specs.World.{Asker, talking, talks, gives_back, unwinds, now_in, shared_in, shared_out, second, answered_at_once}
use Rattle.lua_meaning.specs.Calls as calls_in
use Rattle.lua_meaning.specs.Calls.{pays_for}
use Rattle.lua_meaning.specs.Asks.{settled as talk_settled}
use Rattle.code_means.specs.Runs.{codes_run}
use Rattle.machine_means.specs.Joined.{TalkFrame, TalkWorld, Dressed, RegistersPair, Joined, line_known}
use Rattle.machine_means.specs.Stands.{results_come, error_leaves}
use Rattle.machine_means.proofs.Handing.{ending_of, handed_is, hand_over_is, moved, told_now}
use Rattle.machine_means.proofs.Loosened.{loosened}
use Rattle.machine_means.proofs.Switches.{OnlyRuns, set_same}
use Rattle.machine_means.proofs.Lists.{set_twice}
use Rattle.machine_means.proofs.Sharing.{shared_append}
use Rattle.means_steps.proofs.Middle.{Around, MiddleOf, Middle, frame}
use Rattle.means_steps.proofs.Closes.{closes_all}
use Rattle.means_steps.proofs.Rests.{left_joined, left_alone}
use Rattle.means_steps.proofs.TopMoves.{stack_at, place, with_top, with_done, without_top, left_world, left_stack, popped_is, own_move, settle_move, tail_move, leave_move}
use Rattle.means_steps.specs.Steps.{Leads}
use Rattle.means_steps.proofs.Leads.{handed_so, go_on, by_move}
use Rattle.means_steps.proofs.Calls.{enter_leads}
use Rattle.means_steps.proofs.Answered.{told_faulted, brought_at_once, share, flushed, done_middle, RowLeads, again, reply_leads, asked, asker_of, raise_leads}
use Rattle.means_steps.proofs.Quicks.{quick_leads}
use Rattle.means_steps.proofs.Goes.{go_leads, own_leads, open_leads}
use Rattle.means_steps.proofs.Waits.{handler_leads, call_leads, close_leads, closable_leads}

-- a frame that is left
module _ (M : World) (T : TalkWorld) (co n : ℕ) (g : Function) (g' : talk.Function Prototype) (w : Wait Value) (a own : Activation) (c : Captured) (below : List Frame) (ts : List TalkFrame) (al : Alike a own) (around : Around M T) (k : Middle M T (shared_in c.gone T.cells) co n g g' w own c.held below ts) where
  abbrev closed_middle : Type 0
  closed_middle = MiddleOf M.chain M.functions (Rattle.machine_core.specs.World.close_from co (length below) 0 own.registers M.cells) M.coroutines T.functions T.coroutines (shared_in (share c a) T.cells) co n g g' w own [] below ts

  left_so : MiddleOf M.chain M.functions (Rattle.machine_core.specs.World.close_from co (length below) 0 own.registers M.cells) M.coroutines T.functions T.coroutines (shared_in (share c a) T.cells) co n g g' w own [] below ts
  left_so =
      subst (λ xs. MiddleOf M.chain M.functions (Rattle.machine_core.specs.World.close_from co (length below) 0 own.registers M.cells) M.coroutines T.functions T.coroutines xs co n g g' w own [] below ts) (sym (shared_append (shared_by c.held a.registers) c.gone T.cells))
      (closes_all M.chain M.functions M.cells M.coroutines T.functions T.coroutines (shared_in c.gone T.cells) co n g g' w own c.held below ts k a.registers al.values)

  pub leaves : Joined false (without_top M co n w own g below) (record T { cells = shared_in (share c a) T.cells; frames = ts })
  leaves = left_joined (record M { cells = Rattle.machine_core.specs.World.close_from co (length below) 0 own.registers M.cells }) T (shared_in (share c a) T.cells) co n g g' w own around below ts left_so

  pub alone : OnlyRuns (slice_set M.coroutines co (in_progress (upward below))) co
  alone = left_alone M T (shared_in c.gone T.cells) co n g g' w own around below ts c.held k

module _ (rows : Primitives Prototype) (shown : List ℕ) (when : When) (n : ℕ) (g : Function) (g' : talk.Function Prototype) (dressed : Dressed g g') (pc : ℕ) (w : Wait Value) where
  left_for : (x : Given) → RowLeads rows shown when n g g' dressed pc w (leave x)
  left_for (results slot) env a own c M T co below ts al e gd now said around k =
      subst (λ X. Leads rows shown X (run (expand_by when (leave (results slot))) env M)) (sym (asked rows shown when n g g' dressed pc (leaves_ask (returns (drop slot env))) refl a c T ts (λ x b d. amid trap [] b d)))
      (by_move rows shown U (leave_frame (results slot)) (λ _ top. after_leaving (results slot) top) env M _ (leave_move M co n w own g below k.last k.runs k.there (results slot) env)
      (subst (λ o. Leads rows shown U o) (sym (handed_is (top_shape W (last (upward below))) (env ++ []) W)) (
        0,
        handed_so shown (top_shape W (last (upward below))) W U (results_come (ending_of (top_shape W (last (upward below)))) W U (hand_over_is W (stack_at co below) [] (left_stack M co n w own g below k.last k.runs (drop slot env))) refl
            (told_now false W V (gives_back (drop slot env)) (moved false (without_top M co n w own g below) V (drop slot env) (leaves M T co n g g' w a own c below ts al around k)))),
      )))
    where
      W : World
      W = left_world M co n w own g below k.last k.runs (drop slot env)

      V : TalkWorld
      V = record T { cells = shared_in (share c a) T.cells; frames = ts }

      U : TalkWorld
      U = now_in V (gives_back (drop slot env))
  left_for (thrown x) env a own c M T co below ts al e gd now said around k =
      subst (λ X. Leads rows shown X (run (expand_by when (leave (thrown x))) env M)) (sym (asked rows shown when n g g' dressed pc (leaves_ask (throws (arg env x))) refl a c T ts (λ x b d. amid trap [] b d)))
      (by_move rows shown U (leave_frame (thrown x)) (λ _ top. after_leaving (thrown x) top) env M _ (leave_move M co n w own g below k.last k.runs k.there (thrown x) env) (
        0,
        error_leaves W U (arg env x) refl refl
            (told_now true W V (unwinds (arg env x)) (moved true (without_top M co n w own g below) V (arg env x ∷ []) (loosened true (without_top M co n w own g below) V (leaves M T co n g g' w a own c below ts al around k)))),
      ))
    where
      W : World
      W = left_world M co n w own g below k.last k.runs (arg env x ∷ [])

      V : TalkWorld
      V = record T { cells = shared_in (share c a) T.cells; frames = ts }

      U : TalkWorld
      U = now_in V (unwinds (arg env x))

  -- a call in the place of the frame
  tail_leads : (x : Arg) (slot : ℕ) → RowLeads rows shown when n g g' dressed pc w (tail_call x slot)
  tail_leads x slot env a own c M T co below ts al e gd now said around k =
      subst (λ X. Leads rows shown X (run (expand_by when (tail_call x slot)) env M)) (sym (asked rows shown when n g g' dressed pc (calls_last (arg env x) (drop slot env)) refl a c T ts (λ x b d. amid (marked trap g.code b.pc x.reply) [] b d)))
      (by_move rows shown (pays_for codes_run U (callee_of greatest_chain T.heap (arg env x) (drop slot env)) refused) (enter_tail x slot) (λ _ s. after_call s) env M _ (tail_move M co n w own g below k.last k.runs k.there x slot env)
      (subst (λ H. Leads rows shown (pays_for codes_run U (callee_of greatest_chain H (arg env x) (drop slot env)) refused) (out (called_tail M (place co below n w own g) (callee_of greatest_chain M.heap (arg env x) (drop slot env))))) around.heap
      (by (callee_of greatest_chain M.heap (arg env x) (drop slot env)))))
    where
      U : TalkWorld
      U = record T { cells = shared_in (share c a) T.cells; frames = ts }

      asker : Asker State
      asker = record { function = n; line = line_known g.code a.pc; shared = share c a; goes = λ x. amid (marked trap g.code a.pc x.reply) [] (record a { registers = brought c.held x.shared a.registers }) (record { held = c.held; gone = [] }) }

      refused : List ℕ → TalkWorld → TalkWorld
      refused why V = answered_at_once V asker 0 (faulted why) ts

      out : Option (Made CallShape) → Outcome
      out m = elim m as (λ _. Outcome) [ None ↦ trapped | Some d ↦ run (after_call d.told) (env ++ d.values) d.world ]

      q : Middle M T (shared_in (share c a) T.cells) co n g g' w own c.held below ts × RegistersPair (shared_in (share c a) T.cells) c.held a.registers own.registers
      q = flushed M.chain M.functions M.cells M.coroutines T.functions T.coroutines T.cells co n g g' w a own below ts c al k

      P : World
      P = without_top M co n w own g below

      full : nat_le (length (upward below) + 1) greatest_depth ≡ false → ⊥
      full z = let l = k.depth in let s = length_upward below in le_off (length (upward below) + 1) greatest_depth z (omega (arith, l, s))

      entered : (fuel : ℕ) (f : Value) (args : List Value) → Leads rows shown (calls_in.enters codes_run (record U { fuel = fuel }) f args refused) (out (moves.enters (record P { fuel = fuel }) f args))
      entered = enter_leads rows shown P U said co (upward below) (leaves M T co n g g' w a own c below ts al around k) k.last (get_set_same M.coroutines co (in_progress (upward (lua (frame n w own) ∷ below))) (in_progress (upward below)) k.runs)
          (alone M T co n g g' w a own c below ts al around k) env after_call refused refl (λ m. refl) refl (λ z fuel. absurd (full z))

      by_fuel : (fuel : ℕ) (f : Value) (args : List Value) → Leads rows shown (calls_in.pays_with codes_run fuel U f args refused) (out (elim fuel [ zero ↦ made M [] moves.not_paid | suc m ↦ moves.enters (record (Rattle.machine_core.specs.Moves.popped M (place co below n w own g)) { fuel = m }) f args ]))
      by_fuel zero f args = (0, (refl, said))
      by_fuel (suc m) f args = subst (λ (W : World). Leads rows shown (calls_in.enters codes_run (record U { fuel = m }) f args refused) (out (moves.enters (record W { fuel = m }) f args))) (sym (popped_is M co n w own g below)) (entered m f args)

      by : (o : Callee) → Leads rows shown (pays_for codes_run U o refused) (out (called_tail M (place co below n w own g) o))
      by (not_callable text) = again rows shown when n g g' dressed pc w (raise text) (raise_leads rows shown when n g g' dressed pc w text) [] a own (brought c.held (map second (share c a)) a.registers) c.held M (record T { cells = shared_in (share c a) T.cells }) co below ts al.fixed (brought_at_once c.held a own c.gone al) e tt said around q.0
      by (callee f args) = subst (λ m. Leads rows shown (calls_in.pays_with codes_run m U f args refused) (out (called_tail M (place co below n w own g) (callee f args)))) around.fuel (by_fuel M.fuel f args)

  -- moves that are done once an operation is settled
  prepares_leads : (X : TalkWorld) (ps : List Own) (r : Row) (env behind : List Value) (own : Activation) (M : World) (co : ℕ) (below : List Frame)
      → last M.chain ≡ Some co → slice_get M.functions n ≡ Some g → (cs : List Coroutine) → M.coroutines ≡ slice_set cs co (in_progress (upward (lua (frame n w own) ∷ below))) → slice_get M.coroutines co ≡ Some (in_progress (upward (lua (frame n w own) ∷ below))) → Reaches (length env) ps
      → Leads rows shown X (run r (env ++ behind) (record M { cells = cells_done ps g.code co (length below) env own M.cells; coroutines = slice_set cs co (in_progress (upward (lua (frame n w (done ps g.code env own)) ∷ below))) }))
      → Leads rows shown X (run (prepares ps r) (env ++ behind) M)
  prepares_leads X [] r env behind own M co below at_end there cs is runs pr l = subst (λ xs. Leads rows shown X (run r (env ++ behind) (record M { coroutines = xs }))) (sym is) l
  prepares_leads X (m ∷ ps) r env behind own M co below at_end there cs is runs pr l =
      by_move rows shown X (on_own m) (λ _ _. prepares ps r) (env ++ behind) M _ (own_move M co n w own g below at_end runs there m (env ++ behind)) (by (fits m g.code own)
      (subst (λ xs. Leads rows shown X (run (prepares ps r) (env ++ behind) (record M { cells = cells_after m co (length below) own M.cells; coroutines = xs }))) (sym same)
      (prepares_leads X ps r env behind (effect m g.code env own) (record M { cells = cells_after m co (length below) own M.cells; coroutines = slice_set cs co (in_progress (upward (lua (frame n w (effect m g.code env own)) ∷ below))) }) co below at_end there cs refl
      (ap (λ xs. slice_get xs co) (sym same) ∙ get_set_same M.coroutines co (in_progress (upward (lua (frame n w own) ∷ below))) (in_progress (upward (lua (frame n w (effect m g.code env own)) ∷ below))) runs) pr.1 l)))
    where
      same : slice_set M.coroutines co (in_progress (upward (lua (frame n w (effect m g.code env own)) ∷ below))) ≡ slice_set cs co (in_progress (upward (lua (frame n w (effect m g.code env own)) ∷ below)))
      same = ap (λ xs. slice_set xs co (in_progress (upward (lua (frame n w (effect m g.code env own)) ∷ below)))) is ∙ set_twice cs co (in_progress (upward (lua (frame n w own) ∷ below))) (in_progress (upward (lua (frame n w (effect m g.code env own)) ∷ below)))

      by : (x : Bool) → Leads rows shown X (run (prepares ps r) (env ++ behind) (with_top M co n w own g below (cells_after m co (length below) own M.cells) w (effect m g.code env own)))
          → Leads rows shown X (go_on rows shown (on_own m) (λ _ _. prepares ps r) (env ++ behind) (cond x (made (with_top M co n w own g below (cells_after m co (length below) own M.cells) w (effect m g.code (env ++ behind) own)) (reads m g.code (env ++ behind) own) (tells m g.code (env ++ behind) own)) None))
      by false l = tt
      by true l =
          subst (λ rs. Leads rows shown X (run (prepares ps r) ((env ++ behind) ++ rs) (with_top M co n w own g below (cells_after m co (length below) own M.cells) w (effect m g.code (env ++ behind) own)))) (sym (reads_nothing m g.code (length env) (env ++ behind) own pr.0))
          (subst (λ env'. Leads rows shown X (run (prepares ps r) env' (with_top M co n w own g below (cells_after m co (length below) own M.cells) w (effect m g.code (env ++ behind) own)))) (sym (append_nil (env ++ behind)))
          (subst (λ x. Leads rows shown X (run (prepares ps r) (env ++ behind) (with_top M co n w own g below (cells_after m co (length below) own M.cells) w x))) (sym (effect_front m g.code env behind own pr.0)) l))

  -- from a world as it stands
  prepares_at : (X : TalkWorld) (ps : List Own) (r : Row) (env behind : List Value) (own : Activation) (M : World) (co : ℕ) (below : List Frame)
      → last M.chain ≡ Some co → slice_get M.functions n ≡ Some g → slice_get M.coroutines co ≡ Some (in_progress (upward (lua (frame n w own) ∷ below))) → Reaches (length env) ps
      → Leads rows shown X (run r (env ++ behind) (with_done M co n w own g below w ps env)) → Leads rows shown X (run (prepares ps r) (env ++ behind) M)
  prepares_at X ps r env behind own M co below at_end there runs pr l =
      prepares_leads X ps r env behind own M co below at_end there M.coroutines (sym (set_same M.coroutines co (in_progress (upward (lua (frame n w own) ∷ below))) runs)) runs pr l

  -- an operation: settled, by a handler, or at fault
  operate_leads : (op : Operation) (xs : List Arg) (wait : Wait Arg) (ps : List Own) (t : Text) → RowLeads rows shown when n g g' dressed pc w t → RowLeads rows shown when n g g' dressed pc w (operate op xs wait ps t)
  operate_leads op xs wait ps t ih env a own c M T co below ts al e gd now said around k =
      subst (λ X. Leads rows shown X (run (expand_by when (operate op xs wait ps t)) env M)) (sym (asked rows shown when n g g' dressed pc (operates op (args_of env xs)) refl a1 c1 T ts (λ x b d. heard (named env wait) g.code x b d)))
      (by_move rows shown (says (does op (args_of env xs) T.heap)) (settle op xs) after_settling env M _ (settle_move M co n w own g below k.last k.runs k.there op xs env)
      (subst (λ H. Leads rows shown (says (does op (args_of env xs) H)) (go_on rows shown (settle op xs) after_settling env (settled M (place co below n w own g) (does op (args_of env xs) M.heap)))) around.heap
      (by (does op (args_of env xs) M.heap) (join_gives_one op (args_of env xs) M.heap))))
    where
      a1 : Activation
      a1 = done ps g.code env a

      own1 : Activation
      own1 = done ps g.code env own

      al1 : Alike a1 own1
      al1 = done_alike ps g.code env a own al

      c1 : Captured
      c1 = captured_done ps g.code env a c

      pc1 : a1.pc ≡ pc
      pc1 = done_pc ps g.code env a ∙ e

      vs1 : List Value
      vs1 = shared_in (share c1 a1) T.cells

      V : TalkWorld
      V = record T { cells = shared_in (share c1 a1) T.cells }

      asker : Asker State
      asker = asker_of rows shown when n g g' dressed pc (named env wait) a1 c1

      says : Settled → TalkWorld
      says D = talk_settled codes_run V (asker_of rows shown when n g g' dressed pc (named env wait) a1 c1) ts D

      P : World
      P = with_done M co n w own g below w ps env

      q : Middle P T vs1 co n g g' w own1 c1.held below ts × RegistersPair vs1 c1.held a1.registers own1.registers
      q = flushed M.chain M.functions (cells_done ps g.code co (length below) env own M.cells) (slice_set M.coroutines co (in_progress (upward (lua (frame n w own1) ∷ below)))) T.functions T.coroutines T.cells co n g g' w a1 own1 below ts c1 al1 (done_middle M T co n g g' w w env a own c below ts ps al k)

      after_settling : ℕ → SettledShape → Row
      after_settling i s = elim s [
        | is_found ↦ prepares ps (only i (expand_by when t))
        | is_asked ↦ calls_row when (read i) (suc i) wait ps
        | is_fault text ↦ prepares ps (raises text)
      ]

      by : (D : Settled) → (op ≡ concat → GivesOne D) → Leads rows shown (says D) (go_on rows shown (settle op xs) after_settling env (settled M (place co below n w own g) D))
      by (found H rs) one =
          let rs1 : List Value = brought c1.held (shared_out (share c1 a1) vs1) a1.registers in
          let W : TalkWorld = record V { heap = H } in
          let goes : Text → List Value → TalkWorld = λ x ys. record W { frames = talking n (amid x ys (record a1 { registers = rs1 }) (record { held = c1.held; gone = [] })) ∷ ts; now = talks } in
          let M1 : World = record M { heap = H } in
          let P1 : World = record P { heap = H } in
          let around1 : Around P1 W = record { heap = refl; globals = around.globals; printed = around.printed; fuel = around.fuel; chain = around.chain } in
          prepares_at (says (found H rs)) ps (only (length env) (expand_by when t)) env rs own M1 co below k.last k.there k.runs gd.1
          (subst (λ x. Leads rows shown (goes x (told_values (named env wait) (values rs))) (run (expand_by when t) (drop (length env) (env ++ rs)) P1))
          (gd.2 ∙ sym (rest_named env wait g.code pc) ∙ ap (rest_at (named env wait) g.code) (sym pc1))
          (subst (λ ys. Leads rows shown (goes t ys) (run (expand_by when t) (drop (length env) (env ++ rs)) P1)) (sym (plain_told op env rs wait gd.0 one))
          (subst (λ ys. Leads rows shown (goes t rs) (run (expand_by when t) ys P1)) (sym (drop_front env rs))
          (reply_leads rows shown when n g g' dressed pc w t ih rs a1 own1 c1 P1 W co below ts al1.fixed pc1 (gd.3 (length rs)) said around1 q.0 q.1))))
      by cannot_arise one = tt
      by (ask h args) one = handler_leads rows shown when n g g' dressed pc w h args wait ps env a own c M T co below ts al e (plain_waits op wait gd.0) (plain_reach op (length env) wait gd.0) gd.1 said around k
      by (fault text) one =
          let rs1 : List Value = brought c1.held (shared_out (share c1 a1) vs1) a1.registers in
          prepares_at (says (fault text)) ps (raises text) env [] own M co below k.last k.there k.runs gd.1
          (subst (λ ys. Leads rows shown (record V { frames = talking n (amid (raise text) ys (record a1 { registers = rs1 }) (record { held = c1.held; gone = [] })) ∷ ts; now = talks }) (run (raises text) (env ++ []) P)) (sym (told_faulted (named env wait) text))
          (reply_leads rows shown when n g g' dressed pc w (raise text) (raise_leads rows shown when n g g' dressed pc w text) [] a1 own1 c1 P V co below ts al1.fixed pc1 tt said around q.0 q.1))

  pub row_leads : (t : Text) → RowLeads rows shown when n g g' dressed pc w t
  row_leads (go_by z) = go_leads rows shown when n g g' dressed pc w z
  row_leads (then_own m t) = own_leads rows shown when n g g' dressed pc w m t (λ i s. row_leads (t i s))
  row_leads (open_cell r t) = open_leads rows shown when n g g' dressed pc w r t (row_leads t)
  row_leads (quick q t) = quick_leads rows shown when n g g' dressed pc w q t (λ i. row_leads (t i))
  row_leads (operate op xs wait ps t) = operate_leads op xs wait ps t (row_leads t)
  row_leads (call x slot wait ps) = call_leads rows shown when n g g' dressed pc w x slot wait ps
  row_leads (tail_call x slot) = tail_leads x slot
  row_leads (close x y wait ps) = close_leads rows shown when n g g' dressed pc w x y wait ps
  row_leads (closable x name t) = closable_leads rows shown when n g g' dressed pc w x name t (row_leads t)
  row_leads (raise text) = raise_leads rows shown when n g g' dressed pc w text
  row_leads (leave x) = left_for x
  row_leads trap = λ env a own c M T co below ts al e gd now said around k. tt
