-- Texts that have a value called, or an operation done: the frame waits, or goes on at once.
use Rattle.lua_meaning.specs.Step.{Primitives}
use Rattle.std.proofs.Common.{ℕ, suc, ◌≡◌, List, [], ◌∷◌, ◌++◌, length, drop, Option, Some, None, refl, sym, ap, subst, ◌∙◌, Bool, true, false}
use Rattle.std.specs.Prelude.{slice_get, slice_set, cond, not, codes, map}
use Rattle.code_core.specs.Prototype.{Prototype}
use Rattle.int_core.specs.Value.{Value, is_nil, last}
use Rattle.int_core.specs.Limits.{stack_overflow}
use Rattle.int_core.specs.Operations.{callee_of, greatest_chain, handler_in, of_close}
use Rattle.int_core.specs.Ask.{Captured, Answer, values, faulted, brought, calls, closes}
use Rattle.list_laws.proofs.Ends.{upward}
use Rattle.list_laws.proofs.Items.{append_nil}
use Rattle.machine_core.specs.World.{Function, Cell, Wait, Activation, Frame, lua, in_progress, World}
use Rattle.machine_core.specs.Text.{Arg, arg, read, Own, done, Text, call, close, closable, raise}
use Rattle.machine_core.specs.Moves.{enter, await, cells_done, named, enters_paid, asks, stop, Outcome, trapped, ends, run}
use Rattle.machine_core.specs.FrameRows.{When, at_once, by_asking, expand_by, calls_row, raises, after_call}
use Rattle.machine_core.specs.RowFits.{IsWaiting}
use Rattle.machine_core.specs.Talk.{State, amid, heard, captured_done, marked}
use Rattle.means_steps.proofs.Alike.{Fixed, Alike}
use Rattle.means_steps.proofs.Texts.{Reaches, WaitReach, named_front, done_front, cells_front, named_waits}
use Rattle.machine_means.proofs.Lists.{nth_mid, drop_mid}
use Rattle.means_steps.proofs.Local.{done_alike, done_pc}
use Rattle.lua_meaning.specs.World as talk
use Rattle.lua_meaning.specs.World.{Asker, talking, waiting, talks, on_frames, shared_in, shared_out, second, answered, answered_at_once}
use Rattle.lua_meaning.specs.Calls.{calls_value, pays_for}
use Rattle.lua_meaning.specs.Asks.{turns}
use Rattle.code_means.specs.Runs.{codes_run}
use Rattle.machine_means.specs.Joined.{TalkFrame, TalkWorld, Dressed, RegistersPair, Joined, line_known}
use Rattle.machine_means.specs.Stands.{call_asked}
use Rattle.machine_means.proofs.Handing.{moved}
use Rattle.means_steps.proofs.Middle.{Around, Middle, frame, alone_of}
use Rattle.means_steps.proofs.TopMoves.{with_top, with_done, enter_move, await_move}
use Rattle.means_steps.specs.Steps.{Leads}
use Rattle.means_steps.proofs.Leads.{go_on}
use Rattle.means_steps.proofs.Calls.{called_leads}
use Rattle.means_steps.proofs.Answered.{told_faulted, brought_at_once, share, flushed, done_middle, RowLeads, again, reply_leads, asked, asker_of, sleeps, raise_leads}
use Rattle.means_steps.proofs.Goes.{marks_known}

module _ (rows : Primitives Prototype) (shown : List ℕ) (when : When) (n : ℕ) (g : Function) (g' : talk.Function Prototype) (dressed : Dressed g g') (pc : ℕ) where
  -- what cannot be called is an error of the own step
  refused_leads : (u : Wait Value) (text : List ℕ) (env : List Value) (a own : Activation) (c : Captured) (M : World) (T : TalkWorld) (co : ℕ) (below : List Frame) (ts : List TalkFrame)
      → Fixed a own → a.pc ≡ pc → T.printed ≡ shown → Around M T → Middle M T T.cells co n g g' u own c.held below ts → RegistersPair T.cells c.held a.registers own.registers
      → Leads rows shown (answered T (asker_of rows shown when n g g' dressed pc u a c) (faulted text) ts) (run (raises text) env M)
  refused_leads u text env a own c M T co below ts x e said around k p =
      subst (λ xs. Leads rows shown (record T { frames = talking n (amid (raise text) xs (record a { registers = brought c.held (shared_out (share c a) T.cells) a.registers }) (record { held = c.held; gone = [] })) ∷ ts; now = talks }) (run (raises text) env M)) (sym (told_faulted u text))
      (reply_leads rows shown when n g g' dressed pc u (raise text) (raise_leads rows shown when n g g' dressed pc u text) [] a own c M T co below ts x e tt said around k p)

  -- a call whose caller waits; M pays, and P is the world in which it waits
  abbrev pub call_at : When → List Value → World → World → Value → List Value → Outcome
  call_at at_once env M P f args = elim (enters_paid M P (callee_of greatest_chain M.heap f args)) as (λ _. Outcome) [ None ↦ trapped | Some d ↦ run (after_call d.told) (env ++ d.values) d.world ]
  call_at by_asking env M P f args = ends asks (record P { moving = f ∷ args })

  abbrev pub calls_for : (u : Wait Value) → Activation → Captured → TalkWorld → List TalkFrame → Value → List Value → TalkWorld
  calls_for u a c T ts f args = calls_value codes_run (on_frames T (waiting (asker_of rows shown when n g g' dressed pc u a c) ∷ ts)) f args (λ why V. answered V (asker_of rows shown when n g g' dressed pc u a c) (faulted why) ts)

  pub waits_leads : (u : Wait Value) (f : Value) (args env : List Value) (a own : Activation) (c : Captured) (M P : World) (T : TalkWorld) (co : ℕ) (below : List Frame) (ts : List TalkFrame)
      → M.heap ≡ P.heap → M.fuel ≡ P.fuel → Fixed a own → a.pc ≡ pc → IsWaiting u → T.printed ≡ shown → Around P T → Middle P T T.cells co n g g' u own c.held below ts → RegistersPair T.cells c.held a.registers own.registers
      → Leads rows shown (calls_for u a c T ts f args) (call_at when env M P f args)
  waits_leads u f args env a own c M P T co below ts heap fuel x e i said around k p = by when
    where
      asker : Asker State
      asker = asker_of rows shown when n g g' dressed pc u a c

      U : TalkWorld
      U = on_frames T (waiting (asker_of rows shown when n g g' dressed pc u a c) ∷ ts)

      joined : Joined false P U
      joined = sleeps rows shown when n g g' dressed pc u a own c P T co below ts x i around k p

      refused : List ℕ → TalkWorld → TalkWorld
      refused why V = answered V (asker_of rows shown when n g g' dressed pc u a c) (faulted why) ts

      with_fuel : (m : ℕ) → Around (record P { fuel = m }) (record T { fuel = m })
      with_fuel m = record { heap = around.heap; globals = around.globals; printed = around.printed; fuel = refl; chain = around.chain }

      at_first : Leads rows shown (pays_for codes_run U (callee_of greatest_chain T.heap f args) refused) (call_at at_once env M P f args)
      at_first =
          subst (λ H. Leads rows shown (pays_for codes_run U (callee_of greatest_chain H f args) refused) (call_at at_once env M P f args)) (heap ∙ around.heap)
          (called_leads rows shown P U said co (upward (lua (frame n u own) ∷ below)) joined k.last k.runs (alone_of P.functions T.cells co P.coroutines T.coroutines k.held k.others) env after_call refused refl (λ m. refl) refl
          (λ _ m. refused_leads u stack_overflow (env ++ []) a own c (record P { fuel = m }) (record T { fuel = m }) co below ts x e said (with_fuel m) k p)
          (λ text. refused_leads u text (env ++ []) a own c P T co below ts x e said around k p)
          M P.fuel fuel (sym around.fuel) (callee_of greatest_chain M.heap f args))

      by : (when : When) → Leads rows shown (calls_value codes_run U f args refused) (call_at when env M P f args)
      by at_once = at_first
      by by_asking = (0, call_asked (record P { moving = f ∷ args }) (calls_value codes_run U f args refused) U f args refl (moved false P U (f ∷ args) joined) refl)

  module _ (w : Wait Value) where
    calls_is : (x : Arg) (slot : ℕ) (wait : Wait Arg) (ps : List Own) (env : List Value) (own : Activation) (M : World) (co : ℕ) (below : List Frame)
        → last M.chain ≡ Some co → slice_get M.coroutines co ≡ Some (in_progress (upward (lua (frame n w own) ∷ below))) → slice_get M.functions n ≡ Some g
        → run (calls_row when x slot wait ps) env M ≡ call_at when env M (with_done M co n w own g below (named env wait) ps env) (arg env x) (drop slot env)
    calls_is x slot wait ps env own M co below at_end runs there = by when
      where
        by : (when : When) → run (calls_row when x slot wait ps) env M ≡ call_at when env M (with_done M co n w own g below (named env wait) ps env) (arg env x) (drop slot env)
        by at_once = ap (λ o. go_on rows shown (enter x slot wait ps) (λ _ s. after_call s) env o) (enter_move M co n w own g below at_end runs there x slot wait ps env)
        by by_asking = ap (λ o. go_on rows shown (await x slot wait ps) (λ _ _. stop asks) env o) (await_move M co n w own g below at_end runs there x slot wait ps env)

    -- what a call changes in its own frame is done, and all cells have their values
    prepared : (u : Wait Value) (ps : List Own) (env : List Value) (a own : Activation) (c : Captured) (M : World) (T : TalkWorld) (co : ℕ) (below : List Frame) (ts : List TalkFrame) → Alike a own → Middle M T (shared_in c.gone T.cells) co n g g' w own c.held below ts
        → Middle (with_done M co n w own g below u ps env) T (shared_in (share (captured_done ps g.code env a c) (done ps g.code env a)) T.cells) co n g g' u (done ps g.code env own) (captured_done ps g.code env a c).held below ts
        × RegistersPair (shared_in (share (captured_done ps g.code env a c) (done ps g.code env a)) T.cells) (captured_done ps g.code env a c).held (done ps g.code env a).registers (done ps g.code env own).registers
    prepared u ps env a own c M T co below ts al k =
        flushed M.chain M.functions (cells_done ps g.code co (length below) env own M.cells) (slice_set M.coroutines co (in_progress (upward (lua (frame n u (done ps g.code env own)) ∷ below)))) T.functions T.coroutines T.cells co n g g' u (done ps g.code env a) (done ps g.code env own) below ts
        (captured_done ps g.code env a c) (done_alike ps g.code env a own al) (done_middle M T co n g g' w u env a own c below ts ps al k)

    pub call_leads : (x : Arg) (slot : ℕ) (wait : Wait Arg) (ps : List Own) → RowLeads rows shown when n g g' dressed pc w (call x slot wait ps)
    call_leads x slot wait ps env a own c M T co below ts al e gd now said around k =
        let a1 : Activation = done ps g.code env a in
        let c1 : Captured = captured_done ps g.code env a c in
        let P : World = with_done M co n w own g below (named env wait) ps env in
        let V : TalkWorld = record T { cells = shared_in (share c1 a1) T.cells } in
        let q = prepared (named env wait) ps env a own c M T co below ts al k in
        subst (λ X. Leads rows shown X (run (expand_by when (call x slot wait ps)) env M)) (sym (asked rows shown when n g g' dressed pc (calls (arg env x) (drop slot env)) refl a1 c1 T ts (λ x b d. heard (named env wait) g.code x b d)))
        (subst (λ o. Leads rows shown (calls_for (named env wait) a1 c1 V ts (arg env x) (drop slot env)) o) (sym (calls_is x slot wait ps env own M co below k.last k.runs k.there))
        (waits_leads (named env wait) (arg env x) (drop slot env) env a1 (done ps g.code env own) c1 M P V co below ts refl refl (done_alike ps g.code env a own al).fixed (done_pc ps g.code env a ∙ e) (named_waits env wait gd) said around q.0 q.1))

    -- a function that was read behind what is named is called with what stands behind it
    pub handler_leads : (h : Value) (args : List Value) (wait : Wait Arg) (ps : List Own) (env : List Value) (a own : Activation) (c : Captured) (M : World) (T : TalkWorld) (co : ℕ) (below : List Frame) (ts : List TalkFrame)
        → Alike a own → a.pc ≡ pc → IsWaiting wait → WaitReach (length env) wait → Reaches (length env) ps → T.printed ≡ shown → Around M T → Middle M T (shared_in c.gone T.cells) co n g g' w own c.held below ts
        → Leads rows shown (calls_for (named env wait) (done ps g.code env a) (captured_done ps g.code env a c) (record T { cells = shared_in (share (captured_done ps g.code env a c) (done ps g.code env a)) T.cells }) ts h args)
        (run (calls_row when (read (length env)) (suc (length env)) wait ps) (env ++ h ∷ args) M)
    handler_leads h args wait ps env a own c M T co below ts al e i wr pr said around k =
        subst (λ o. Leads rows shown X o) (sym (calls_is (read (length env)) (suc (length env)) wait ps (env ++ h ∷ args) own M co below k.last k.runs k.there))
        (subst (λ h'. Leads rows shown X (out h' (drop (suc (length env)) (env ++ h ∷ args)) (named (env ++ h ∷ args) wait) (done ps g.code (env ++ h ∷ args) own) (cells_done ps g.code co (length below) (env ++ h ∷ args) own M.cells))) (sym (nth_mid env args h))
        (subst (λ args'. Leads rows shown X (out h args' (named (env ++ h ∷ args) wait) (done ps g.code (env ++ h ∷ args) own) (cells_done ps g.code co (length below) (env ++ h ∷ args) own M.cells))) (sym (drop_mid env args h))
        (subst (λ u. Leads rows shown X (out h args u (done ps g.code (env ++ h ∷ args) own) (cells_done ps g.code co (length below) (env ++ h ∷ args) own M.cells))) (sym (named_front env (h ∷ args) wait wr))
        (subst (λ x. Leads rows shown X (out h args (named env wait) x (cells_done ps g.code co (length below) (env ++ h ∷ args) own M.cells))) (sym (done_front ps g.code env (h ∷ args) own pr))
        (subst (λ ws'. Leads rows shown X (out h args (named env wait) (done ps g.code env own) ws')) (sym (cells_front ps g.code co (length below) env (h ∷ args) own M.cells pr))
        (waits_leads (named env wait) h args (env ++ h ∷ args) (done ps g.code env a) (done ps g.code env own) (captured_done ps g.code env a c) M (with_done M co n w own g below (named env wait) ps env) V co below ts refl refl (done_alike ps g.code env a own al).fixed (done_pc ps g.code env a ∙ e) (named_waits env wait i) said around q.0 q.1))))))
      where
        V : TalkWorld
        V = record T { cells = shared_in (share (captured_done ps g.code env a c) (done ps g.code env a)) T.cells }

        X : TalkWorld
        X = calls_for (named env wait) (done ps g.code env a) (captured_done ps g.code env a c) (record T { cells = shared_in (share (captured_done ps g.code env a c) (done ps g.code env a)) T.cells }) ts h args

        q : Middle (with_done M co n w own g below (named env wait) ps env) T (shared_in (share (captured_done ps g.code env a c) (done ps g.code env a)) T.cells) co n g g' (named env wait) (done ps g.code env own) (captured_done ps g.code env a c).held below ts
            × RegistersPair (shared_in (share (captured_done ps g.code env a c) (done ps g.code env a)) T.cells) (captured_done ps g.code env a c).held (done ps g.code env a).registers (done ps g.code env own).registers
        q = prepared (named env wait) ps env a own c M T co below ts al k

        out : Value → List Value → Wait Value → Activation → List Cell → Outcome
        out h' args' u x ws' = call_at when (env ++ h ∷ args) M (with_top M co n w own g below ws' u x) h' args'

    pub close_leads : (x y : Arg) (wait : Wait Arg) (ps : List Own) → RowLeads rows shown when n g g' dressed pc w (close x y wait ps)
    close_leads x y wait ps env a own c M T co below ts al e gd now said around k =
        let a1 : Activation = done ps g.code env a in
        let c1 : Captured = captured_done ps g.code env a c in
        let V : TalkWorld = record T { cells = shared_in (share c1 a1) T.cells } in
        let l = handler_leads (handler_in M.heap of_close (arg env x)) (arg env x ∷ arg env y ∷ []) wait ps env a own c M T co below ts al e gd.0 gd.1 gd.2 said around k in
        subst (λ X. Leads rows shown X (run (expand_by when (close x y wait ps)) env M)) (sym (asked rows shown when n g g' dressed pc (closes (arg env x) (arg env y)) refl a1 c1 T ts (λ x b d. heard (named env wait) g.code x b d)))
        (subst (λ H. Leads rows shown (calls_for (named env wait) a1 c1 V ts (handler_in H of_close (arg env x)) (arg env x ∷ arg env y ∷ [])) (run (expand_by when (close x y wait ps)) env M)) around.heap l)

    -- a variable to be closed is checked
    pub closable_leads : (x : Arg) (name : List ℕ) (t : Text) → RowLeads rows shown when n g g' dressed pc w t → RowLeads rows shown when n g g' dressed pc w (closable x name t)
    closable_leads x name t ih env a own c M T co below ts al e gd now said around k =
        subst (λ nx. Leads rows shown (turns codes_run nx T n ts) (run (expand_by when (closable x name t)) env M)) (sym (marks_known g'.has_lines g'.source g.code a.pc dressed.named.own (arg env x) name gd.0 (share c a) goes))
        (subst (λ H. Leads rows shown (says_by (is_nil (handler_in H of_close (arg env x)))) (run (expand_by when (closable x name t)) env M)) around.heap (by (is_nil (handler_in M.heap of_close (arg env x)))))
      where
        goes : Answer → State
        goes x = amid (marked t g.code a.pc x.reply) env (record a { registers = brought c.held x.shared a.registers }) (record { held = c.held; gone = [] })

        asker : Asker State
        asker = record { function = n; line = line_known g.code a.pc; shared = share c a; goes = λ x. amid (marked t g.code a.pc x.reply) env (record a { registers = brought c.held x.shared a.registers }) (record { held = c.held; gone = [] }) }

        V : TalkWorld
        V = record T { cells = shared_in (share c a) T.cells }

        says_text : List ℕ
        says_text = codes "variable '" ++ name ++ codes "' got a non-closable value"

        says_by : Bool → TalkWorld
        says_by b = cond b (answered_at_once V asker 0 (faulted (codes "variable '" ++ name ++ codes "' got a non-closable value")) ts) (answered_at_once V asker 0 (values []) ts)

        q : Middle M T (shared_in (share c a) T.cells) co n g g' w own c.held below ts × RegistersPair (shared_in (share c a) T.cells) c.held a.registers own.registers
        q = flushed M.chain M.functions M.cells M.coroutines T.functions T.coroutines T.cells co n g g' w a own below ts c al k

        by : (z : Bool) → Leads rows shown (says_by z) (run (cond (not z) (expand_by when t) (raises says_text)) (env ++ []) M)
        by true = again rows shown when n g g' dressed pc w (raise says_text) (raise_leads rows shown when n g g' dressed pc w says_text) env a own (brought c.held (map second (share c a)) a.registers) c.held M V co below ts al.fixed (brought_at_once c.held a own c.gone al) e tt said around q.0
        by false =
            subst (λ env'. Leads rows shown (answered_at_once V asker 0 (values []) ts) (run (expand_by when t) env' M)) (sym (append_nil env))
            (again rows shown when n g g' dressed pc w t ih env a own (brought c.held (map second (share c a)) a.registers) c.held M V co below ts al.fixed (brought_at_once c.held a own c.gone al) e gd.1 said around q.0)
