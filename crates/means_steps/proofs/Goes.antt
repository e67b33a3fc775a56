-- Texts that go on at another place, or do a move on the own activation, or give a captured local its cell.
use Rattle.lua_meaning.specs.Step.{Primitives}
use Rattle.std.proofs.Common.{ℕ, ◌≡◌, List, [], ◌∷◌, ◌++◌, length, Option, Some, None, refl, sym, ap, subst, ◌∙◌, Bool, true, false}
use Rattle.std.specs.Prelude.{ℤ, cond, nat_lt, codes, map}
use Rattle.code_core.specs.declared.instruction.Instruction.{Instruction}
use Rattle.code_core.specs.Check.{at}
use Rattle.code_core.specs.Prototype.{Prototype}
use Rattle.int_core.specs.Value.{Value, bind, nth, Shape}
use Rattle.int_core.specs.Ask.{Ask, Captured, Answer, Next, goes_on, says, stuck, cell_held, brought, opens, marks}
use Rattle.list_laws.proofs.Ends.{upward}
use Rattle.list_laws.proofs.Items.{append_nil}
use Rattle.machine_core.specs.World.{Function, open_at, Wait, running, Activation, Frame, lua, World, find_open}
use Rattle.machine_core.specs.Text.{Own, reads, tells, effect, fits, Text, go_by, own as then_own, open_cell}
use Rattle.machine_core.specs.Moves as moves
use Rattle.machine_core.specs.Moves.{made, on_own, move_pc, open_register, opened_cells, place_from, cells_after, go, stop, ends, run}
use Rattle.machine_core.specs.FrameRows.{When, expand_by}
use Rattle.machine_core.specs.Talk.{State, before, amid, talk, says_so, captured_after}
use Rattle.means_steps.proofs.Alike.{Alike}
use Rattle.means_steps.proofs.Texts.{least_read}
use Rattle.means_steps.proofs.Local.{fits_alike, reads_alike, tells_alike, effect_alike, effect_pc}
use Rattle.lua_meaning.specs.World as talk
use Rattle.lua_meaning.specs.World.{talking, talks, as_known, shared_in, second}
use Rattle.lua_meaning.specs.Asks.{turns}
use Rattle.code_means.specs.Runs.{codes_run}
use Rattle.machine_means.specs.Joined.{TalkFrame, TalkWorld, Dressed, PartsNamed, line_known}
use Rattle.machine_means.specs.Works.{RunsOver, Works}
use Rattle.machine_means.specs.Stands.{code_runs}
use Rattle.machine_means.proofs.Held.{reverse_is}
use Rattle.machine_means.proofs.FrameWrites.{below_length}
use Rattle.means_steps.proofs.Middle.{Around, Middle, frame, framed, with_own_stack}
use Rattle.means_steps.proofs.Opens.{both_none, both_some, opened_top}
use Rattle.means_steps.proofs.TopMoves.{with_top, own_move, pc_move, open_move}
use Rattle.means_steps.specs.Steps.{Leads}
use Rattle.means_steps.proofs.Leads.{go_on, by_move, line_is, says_known}
use Rattle.means_steps.proofs.Answered.{as_one, brought_at_once, share, flushed, own_middle, RowLeads, again, asked}
use Rattle.means_steps.proofs.Quicks.{good_more}

-- a row that goes on at another place: the function runs
module _ (M : World) (T : TalkWorld) (co n : ℕ) (g : Function) (g' : talk.Function Prototype) (a own : Activation) (c : Captured) (below : List Frame) (ts : List TalkFrame) where
  pub works_on : Alike a own → T.now ≡ talks → Around M T → Middle M T (shared_in c.gone T.cells) co n g g' running own c.held below ts → Works M (record T { frames = talking n (before a c) ∷ ts })
  works_on al now around k = record {
    heap = around.heap;
    globals = around.globals;
    printed = around.printed;
    fuel = around.fuel;
    chain = around.chain;
    functions = k.functions;
    now = now;
    frame = frame n running own;
    runs = refl;
    function = g;
    there = k.there;
    a = a;
    captured = c;
    alike = record { fixed = as_one a own al.fixed; values = al.values; size = al.size };
    not_own = k.not_own;
    below = below;
    talks_below = ts;
    top = refl;
    held = k.held;
    cells = k.cells;
    coroutines = with_own_stack M.functions (shared_in c.gone T.cells) co M.coroutines T.coroutines k.held (RunsOver M.functions (shared_in c.gone T.cells) (frame n running own) below ts c.held) (upward (lua (frame n running own) ∷ below)) (c.held ∷ k.more) k.runs k.talks k.holds
        (record { more = k.more; is_held = refl; listed = sym (reverse_is (lua (frame n running own) ∷ below)); waits = k.waits; depth = k.depth }) k.others;
  }

abbrev marks_so : Value → List ℕ → Ask Prototype
marks_so v name = marks v name

abbrev marks_with : Value → List ℕ → Option ℕ → List (ℕ × Value) → (Answer → State) → Next Prototype State
marks_with v name line shared k = says (marks v name) line shared k

-- the name of a variable in an ask that is known to be without lines
pub marks_known : (lines : Bool) (source : List ℕ) (p : Prototype) (pc : ℕ) → PartsNamed lines source p.own → (v : Value) (name : List ℕ) → (p.own.locals ≡ [] → name ≡ codes "?") → (shared : List (ℕ × Value)) (k : Answer → State)
    → as_known {F = Prototype} {S = State} lines (says (marks v name) (moves.line_of p pc) shared k) ≡ says (marks v name) (line_known p pc) shared k
marks_known true source p pc names v name unnamed shared k = ap (λ line. marks_with v name line shared k) (line_is true source p pc names)
marks_known false source p pc names v name unnamed shared k = says_known false source p pc names (marks v name) (let z : codes "?" ≡ name = sym (unnamed names.1) in ap (marks_so v) z) shared k

module _ (rows : Primitives Prototype) (shown : List ℕ) (when : When) (n : ℕ) (g : Function) (g' : talk.Function Prototype) (dressed : Dressed g g') (pc : ℕ) (w : Wait Value) where
  abbrev pub side : Text → List Value → Activation → Captured → TalkWorld → List TalkFrame → TalkWorld
  side t env a c T ts = turns codes_run (as_known g'.has_lines (talk g.code t env a c)) T n ts

  pub go_leads : (z : ℤ) → RowLeads rows shown when n g g' dressed pc w (go_by z)
  go_leads z env a own c M T co below ts al e gd now said around k =
      by_move rows shown (side (go_by z) env a c T ts) (move_pc z) (λ _ _. stop go) env M _ (pc_move M co n w own g below k.last k.runs k.there z env)
      (subst (λ x. Leads rows shown (side (go_by z) env a c T ts) (go_on rows shown (move_pc z) (λ _ _. stop go) env (bind (place_from x z) (λ q. bind (at g.code q) (λ _. made (with_top M co n w own g below M.cells w (record own { pc = q })) [] tt))))) al.fixed.pc (by (place_from a.pc z)))
    where
      goes_so : (lines : Bool) (s : State) → turns codes_run (as_known lines (goes_on s)) T n ts ≡ record T { frames = talking n s ∷ ts }
      goes_so true s = refl
      goes_so false s = refl

      there : (q : ℕ) → Leads rows shown (turns codes_run (as_known g'.has_lines (goes_on (before (record a { pc = q }) c))) T n ts) (ends go (with_top M co n w own g below M.cells w (record own { pc = q })))
      there q =
          subst (λ X. Leads rows shown X (ends go (with_top M co n w own g below M.cells w (record own { pc = q })))) (sym (goes_so g'.has_lines (before (record a { pc = q }) c)))
          (subst (λ u. Leads rows shown (record T { frames = talking n (before (record a { pc = q }) c) ∷ ts }) (ends go (with_top M co n w own g below M.cells u (record own { pc = q })))) (sym gd) (
            0,
            code_runs (with_top M co n w own g below M.cells running (record own { pc = q })) (record T { frames = talking n (before (record a { pc = q }) c) ∷ ts })
                (works_on (with_top M co n w own g below M.cells running (record own { pc = q })) T co n g g' (record a { pc = q }) (record own { pc = q }) c below ts
                (record { fixed = record { pc = refl; varargs = al.fixed.varargs; pending = al.fixed.pending; opened = al.fixed.opened }; values = al.values; size = al.size }) now around
                (framed M.chain M.functions M.cells M.coroutines T.functions T.coroutines (shared_in c.gone T.cells) co n g g' w own c.held below ts k running (record own { pc = q }))),
          ))

      inner : (q : ℕ) (o : Option Instruction) → Leads rows shown (turns codes_run (as_known g'.has_lines (elim (bind o (λ _. Some q)) [ None ↦ stuck | Some pc ↦ goes_on (before (record a { pc = pc }) c) ])) T n ts)
          (go_on rows shown (move_pc z) (λ _ _. stop go) env (bind o (λ _. made (with_top M co n w own g below M.cells w (record own { pc = q })) [] tt)))
      inner q None = tt
      inner q (Some i) = there q

      by : (o : Option ℕ) → Leads rows shown (turns codes_run (as_known g'.has_lines (elim (bind o (λ pc. bind (at g.code pc) (λ _. Some pc))) [ None ↦ stuck | Some pc ↦ goes_on (before (record a { pc = pc }) c) ])) T n ts)
          (go_on rows shown (move_pc z) (λ _ _. stop go) env (bind o (λ q. bind (at g.code q) (λ _. made (with_top M co n w own g below M.cells w (record own { pc = q })) [] tt))))
      by None = tt
      by (Some q) = inner q (at g.code q)

  pub own_leads : (m : Own) (t : ℕ → Shape → Text) → ((i : ℕ) (s : Shape) → RowLeads rows shown when n g g' dressed pc w (t i s)) → RowLeads rows shown when n g g' dressed pc w (then_own m t)
  own_leads m t ih env a own c M T co below ts al e gd now said around k =
      by_move rows shown (side (then_own m t) env a c T ts) (on_own m) (λ i s. expand_by when (t i s)) env M _ (own_move M co n w own g below k.last k.runs k.there m env)
      (by (fits m g.code own) (fits m g.code a) (fits_alike g.code env a own al m))
    where
      M1 : World
      M1 = with_top M co n w own g below (cells_after m co (length below) own M.cells) w (effect m g.code env own)

      talks_on : Next Prototype State
      talks_on = talk g.code (t (length env) (tells m g.code env a)) (env ++ reads m g.code env a) (effect m g.code env a) (captured_after m a c)

      there : Leads rows shown (turns codes_run (as_known g'.has_lines talks_on) T n ts) (run (expand_by when (t (length env) (tells m g.code env own))) (env ++ reads m g.code env own) M1)
      there =
          subst (λ s. Leads rows shown (turns codes_run (as_known g'.has_lines talks_on) T n ts) (run (expand_by when (t (length env) s)) (env ++ reads m g.code env own) M1)) (tells_alike g.code env a own al m)
          (subst (λ rs. Leads rows shown (turns codes_run (as_known g'.has_lines talks_on) T n ts) (run (expand_by when (t (length env) (tells m g.code env a))) (env ++ rs) M1)) (reads_alike g.code env a own al m)
          (ih (length env) (tells m g.code env a) (env ++ reads m g.code env a) (effect m g.code env a) (effect m g.code env own) (captured_after m a c) M1 T co below ts
          (effect_alike g.code env a own al m) (effect_pc m g.code env a ∙ e) (good_more rows shown when n g g' dressed pc w env (reads m g.code env a) (t (length env) (tells m g.code env a)) (gd (tells m g.code env a) (length (reads m g.code env a)) (least_read m g.code env a)))
          now said around (own_middle M T co n g g' w env a own c below ts m al k)))

      by : (x y : Bool) → (x ≡ true → y ≡ true) → Leads rows shown (turns codes_run (as_known g'.has_lines (cond y talks_on stuck)) T n ts)
          (go_on rows shown (on_own m) (λ i s. expand_by when (t i s)) env (cond x (made M1 (reads m g.code env own) (tells m g.code env own)) None))
      by false y i = tt
      by true false i = absurd (let z : false ≡ true = i refl in cc)
      by true true i = there

  -- a captured local gets a cell
  pub open_leads : (r : ℕ) (t : Text) → RowLeads rows shown when n g g' dressed pc w t → RowLeads rows shown when n g g' dressed pc w (open_cell r t)
  open_leads r t ih env a own c M T co below ts al e gd now said around k =
      by_move rows shown (side (open_cell r t) env a c T ts) (open_register r) (λ _ _. expand_by when t) env M _ (open_move M co n w own g below k.last k.runs k.there r env)
      (by (nat_lt r (length own.registers)))
    where
      same : length k.more ≡ length below
      same = below_length false M.functions (shared_in c.gone T.cells) below ts k.more k.waits

      new_next : Next Prototype State
      new_next = says_so (opens (nth a.registers r)) g.code a c (λ x b' d'. amid t env b' (record d' { held = (r, x.cell) ∷ d'.held }))

      opened : Option ℕ → World
      opened o = record M { cells = opened_cells o co (length below) r M.cells }

      there : (o : Option ℕ) → cell_held r c.held ≡ o → Leads rows shown (turns codes_run (as_known g'.has_lines (elim o [ None ↦ new_next | Some _ ↦ talk g.code t env a c ])) T n ts) (run (expand_by when t) env (opened (find_open co (length below) r M.cells)))
      there (Some i) x =
          subst (λ o. Leads rows shown (side t env a c T ts) (run (expand_by when t) env (opened o)))
          (sym (subst (λ z. find_open co z r M.cells ≡ Some i) same (both_some M.cells (shared_in c.gone T.cells) k.held k.cells co c.held k.more k.holds r i x)))
          (ih env a own c M T co below ts al e gd now said around k)
      there None x =
          let none : find_open co (length k.more) r M.cells ≡ None = both_none M.cells (shared_in c.gone T.cells) k.held k.cells co c.held k.more k.holds r x in
          let vs1 : List Value = shared_in (share c a) T.cells in
          let q = flushed M.chain M.functions M.cells M.coroutines T.functions T.coroutines T.cells co n g g' w a own below ts c al k in
          let len : length q.0.more ≡ length below = below_length false M.functions vs1 below ts q.0.more q.0.waits in
          let none' : find_open co (length q.0.more) r M.cells ≡ None = subst (λ z. find_open co z r M.cells ≡ None) (same ∙ sym len) none in
          let V : TalkWorld = record T { cells = vs1 ++ nth a.registers r ∷ [] } in
          let k1 = opened_top M.chain M.functions M.cells M.coroutines T.functions T.coroutines vs1 co n g g' w own c.held below ts q.0 r (nth a.registers r) none' in
          subst (λ o. Leads rows shown (turns codes_run (as_known g'.has_lines new_next) T n ts) (run (expand_by when t) env (opened o))) (sym (subst (λ z. find_open co z r M.cells ≡ None) same none))
          (subst (λ z. Leads rows shown (turns codes_run (as_known g'.has_lines new_next) T n ts) (run (expand_by when t) env (record M { cells = M.cells ++ open_at co z r ∷ [] }))) len
          (subst (λ X. Leads rows shown X (run (expand_by when t) env (record M { cells = M.cells ++ open_at co (length q.0.more) r ∷ [] }))) (sym (asked rows shown when n g g' dressed pc (opens (nth a.registers r)) refl a c T ts (λ x b' d'. amid t env b' (record d' { held = (r, x.cell) ∷ d'.held }))))
          (again rows shown when n g g' dressed pc w t ih env a own (brought c.held (map second (share c a)) a.registers) ((r, length vs1) ∷ c.held) (record M { cells = M.cells ++ open_at co (length q.0.more) r ∷ [] }) V co below ts
          al.fixed (brought_at_once c.held a own c.gone al) e gd said around k1)))

      by : (x : Bool) → Leads rows shown (side (open_cell r t) env a c T ts) (go_on rows shown (open_register r) (λ _ _. expand_by when t) env (cond x (made (opened (find_open co (length below) r M.cells)) [] tt) None))
      by false = tt
      by true =
          subst (λ env'. Leads rows shown (side (open_cell r t) env a c T ts) (run (expand_by when t) env' (opened (find_open co (length below) r M.cells)))) (sym (append_nil env))
          (there (cell_held r c.held) refl)
