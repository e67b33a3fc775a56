-- An activation that is answered goes on with a text: what it leads to in both worlds, and errors of its own step.
use Rattle.lua_meaning.specs.Step.{Primitives}
use Rattle.std.proofs.Common.{ℕ, ◌≤◌, ◌≡◌, inl, List, [], ◌∷◌, ◌++◌, length, Option, Some, None, refl, sym, ap, subst, ◌∙◌, arith, true, false}
use Rattle.std.specs.Prelude.{slice_get, slice_set, map, filter_map, reverse}
use Rattle.std.proofs.lemmas.List.{reverse-reverse}
use Rattle.code_core.specs.Prototype.{Prototype}
use Rattle.int_core.specs.Value.{Value, known, nil, nth, bind, write}
use Rattle.int_core.specs.Limits.{limited}
use Rattle.int_core.specs.Ask.{Ask, Captured, Answer, Reply, values, faulted, left, IsLeft, shared_by, gone_from, held_below, brought, raises}
use Rattle.list_laws.specs.Held.{Held}
use Rattle.list_laws.proofs.Ends.{upward}
use Rattle.list_laws.proofs.Values.{write_more}
use Rattle.machine_core.specs.World.{Function, Cell, Wait, running, leaving, Activation, Frame, lua, Coroutine, in_progress, World, close_from}
use Rattle.machine_core.specs.Text.{Own, close_cells, keep_pending, effect, done, Text, raise}
use Rattle.machine_core.specs.InstructionRows.{after, told_values}
use Rattle.machine_core.specs.Moves.{begin_leaving, blamed, frame_place, cells_after, cells_done, raised, stop, run}
use Rattle.machine_core.specs.FrameRows.{When, expand_by}
use Rattle.machine_core.specs.RowFits.{IsWaiting}
use Rattle.machine_core.specs.Talk.{State, amid, talk, says_so, heard, captured_after, captured_done}
use Rattle.means_steps.proofs.Alike.{Fixed, Alike}
use Rattle.means_steps.proofs.Local.{effect_alike, done_alike}
use Rattle.means_steps.proofs.Texts.{Good}
use Rattle.lua_meaning.specs.World as talk
use Rattle.lua_meaning.specs.World.{Asker, talking, waiting, raising, talks, as_known, without_name, shared_in, shared_out, second, raises_error, now_in}
use Rattle.lua_meaning.specs.Asks.{turns, handle}
use Rattle.code_means.specs.Runs.{codes_run}
use Rattle.machine_means.specs.Joined.{TalkFrame, TalkWorld, Dressed, RegistersPair, LuaPair, Joined, line_known}
use Rattle.machine_means.specs.Stands.{error_raised}
use Rattle.machine_means.proofs.Held.{reverse_is}
use Rattle.machine_means.proofs.Handing.{moved, told_now}
use Rattle.machine_means.proofs.Places.{below_places}
use Rattle.machine_means.proofs.Lists.{set_twice}
use Rattle.machine_means.proofs.Sharing.{shared_append, flush_on, flush_off, shared_length, share_in, brought_own}
use Rattle.means_steps.proofs.Middle.{Around, MiddleOf, Middle, frame, framed, still_middle, others_values, once, top_range, not_below, not_apart, not_shut}
use Rattle.means_steps.proofs.Closes.{closes_from}
use Rattle.means_steps.proofs.Rests.{waits_joined}
use Rattle.means_steps.proofs.TopMoves.{with_top, with_done, stack_now, leaving_move}
use Rattle.means_steps.specs.Steps.{Leads}
use Rattle.means_steps.proofs.Leads.{leads_on, by_move, talk_tick, says_known}
use Rattle.machine_means.proofs.FrameWrites.{below_values}

-- what an activation has beside its registers
pub as_one : (a own : Activation) → Fixed a own → record a { registers = own.registers } ≡ own
as_one a own e =
    ap (λ pc. record own { pc = pc; varargs = a.varargs; pending = a.pending; opened = a.opened }) e.pc
    ∙ ap (λ vs. record own { varargs = vs; pending = a.pending; opened = a.opened }) e.varargs
    ∙ ap (λ ps. record own { pending = ps; opened = a.opened }) e.pending
    ∙ ap (λ o. record own { opened = o }) e.opened

pub fixed_of : (a own : Activation) → record a { registers = own.registers } ≡ own → Fixed a own
fixed_of a own e = record { pc = ap (λ (b : Activation). b.pc) e; varargs = ap (λ (b : Activation). b.varargs) e; pending = ap (λ (b : Activation). b.pending) e; opened = ap (λ (b : Activation). b.opened) e }

pub told_faulted : (w : Wait Value) (text : List ℕ) → told_values w (faulted text) ≡ []
told_faulted running text = refl
told_faulted _ text = refl

pub told_left : (w : Wait Value) (v : Value) → told_values w (left v) ≡ v ∷ []
told_left running v = refl
told_left _ v = refl

brought_size : (h : List (ℕ × ℕ)) (vs xs : List Value) → length xs ≤ length (brought h vs xs)
brought_size [] vs xs = omega arith
brought_size (s ∷ h) [] xs = omega arith
brought_size (s ∷ h) (v ∷ vs) xs = let i = brought_size h vs (write s.0 v xs) in let l = write_more s.0 v xs in omega (arith, i, l)

-- the registers that an answer at once brings back
pub brought_at_once : (h : Held) (a own : Activation) (gone : List (ℕ × Value)) → Alike a own
    → ((r : ℕ) → nth (brought h (map second (shared_by h a.registers ++ gone)) a.registers) r ≡ nth own.registers r) × (length own.registers ≤ length (brought h (map second (shared_by h a.registers ++ gone)) a.registers))
brought_at_once h a own gone e = ((λ r. brought_own h a.registers a.registers gone (λ q. refl) r ∙ e.values r), (let i = brought_size h (map second (shared_by h a.registers ++ gone)) a.registers in let l = e.size in omega (arith, i, l)))

abbrev pub share : Captured → Activation → List (ℕ × Value)
share c a = shared_by c.held a.registers ++ c.gone

-- all cells get their values before an ask
module _ (chain : List ℕ) (fs : List Function) (ws : List Cell) (cs : List Coroutine) (gs : List (talk.Function Prototype)) (ds : List (talk.Coroutine State)) (vs : List Value)
    (co n : ℕ) (g : Function) (g' : talk.Function Prototype) (w : Wait Value) (a own : Activation) (below : List Frame) (ts : List TalkFrame) where
  flushed_top : (h : Held) → Alike a own → MiddleOf chain fs ws cs gs ds vs co n g g' w own h below ts
      → MiddleOf chain fs ws cs gs ds (shared_in (shared_by h a.registers) vs) co n g g' w own h below ts × RegistersPair (shared_in (shared_by h a.registers) vs) h a.registers own.registers
  flushed_top h e k =
      let vs1 : List Value = shared_in (shared_by h a.registers) vs in (
        still_middle k ws cs vs1 w own below k.in_range k.runs
            (record {
              size = k.cells.size ∙ sym (shared_length (shared_by h a.registers) vs);
              shut = λ c v d. flush_off h a.registers vs c (not_shut ws vs k.held k.cells co h k.more k.holds c v d) ∙ k.cells.shut c v d;
              opened = k.cells.opened;
              held_open = k.cells.held_open;
              one = k.cells.one;
            })
            (below_values false fs vs vs1 below ts k.more (λ f r c m. flush_off h a.registers vs c (not_below ws vs k.held k.cells co h k.more k.holds f r c m)) k.waits) k.depth
            (others_values fs vs vs1 co cs ds k.held (λ j f r c n m. flush_off h a.registers vs c (not_apart ws vs k.held k.cells co h k.more k.holds j f r c n m)) k.others),
        record { size = e.size; off = λ r. inl (e.values r); on = λ r c m. flush_on h a.registers vs r c (once ws vs k.held k.cells co h k.more k.holds) (top_range ws vs k.held k.cells co h k.more k.holds) m ∙ e.values r },
      )

pub flushed : (chain : List ℕ) (fs : List Function) (ws : List Cell) (cs : List Coroutine) (gs : List (talk.Function Prototype)) (ds : List (talk.Coroutine State)) (vs : List Value)
    (co n : ℕ) (g : Function) (g' : talk.Function Prototype) (w : Wait Value) (a own : Activation) (below : List Frame) (ts : List TalkFrame) (c : Captured) → Alike a own → MiddleOf chain fs ws cs gs ds (shared_in c.gone vs) co n g g' w own c.held below ts
    → MiddleOf chain fs ws cs gs ds (shared_in (share c a) vs) co n g g' w own c.held below ts × RegistersPair (shared_in (share c a) vs) c.held a.registers own.registers
flushed chain fs ws cs gs ds vs co n g g' w a own below ts c e k =
    subst (λ xs. MiddleOf chain fs ws cs gs ds xs co n g g' w own c.held below ts × RegistersPair xs c.held a.registers own.registers) (sym (shared_append (shared_by c.held a.registers) c.gone vs))
    (flushed_top chain fs ws cs gs ds (shared_in c.gone vs) co n g g' w a own below ts c.held e k)

-- moves on the own activation
module _ (fs : List Function) (vs : List Value) (gs : List (talk.Function Prototype)) (ds : List (talk.Coroutine State)) (chain : List ℕ) (co n : ℕ) (g : Function) (g' : talk.Function Prototype) (w : Wait Value) (env : List Value) (below : List Frame) (ts : List TalkFrame) where
  -- one of them closes cells, and none does more to them
  cells_keep : (m : Own) (a own : Activation) → Alike a own → (c : Captured) (ws : List Cell) (cs : List Coroutine) → MiddleOf chain fs ws cs gs ds (shared_in c.gone vs) co n g g' w own c.held below ts
      → MiddleOf chain fs (cells_after m co (length below) own ws) cs gs ds (shared_in (captured_after m a c).gone vs) co n g g' w own (captured_after m a c).held below ts
  cells_keep (close_cells r) a own e c ws cs k =
      subst (λ xs. MiddleOf chain fs (close_from co (length below) r own.registers ws) cs gs ds xs co n g g' w own (held_below r c.held) below ts) (sym (shared_append (gone_from r c.held a.registers) c.gone vs))
      (closes_from chain fs ws cs gs ds (shared_in c.gone vs) co n g g' w own c.held below ts k r a.registers e.values)
  cells_keep _ a own e c ws cs k = k

  -- some moves one after another, and then another wait; in between the frame stands where it stood
  pub done_keeps : (os : List Own) (a own : Activation) → Alike a own → (c : Captured) (ws : List Cell) (cs : List Coroutine) (u : Wait Value)
      → MiddleOf chain fs ws (slice_set cs co (in_progress (upward (lua (frame n w own) ∷ below)))) gs ds (shared_in c.gone vs) co n g g' w own c.held below ts
      → MiddleOf chain fs (cells_done os g.code co (length below) env own ws) (slice_set cs co (in_progress (upward (lua (frame n u (done os g.code env own)) ∷ below)))) gs ds (shared_in (captured_done os g.code env a c).gone vs) co n g g' u (done os g.code env own) (captured_done os g.code env a c).held below ts
  done_keeps [] a own e c ws cs u k =
      subst (λ xs. MiddleOf chain fs ws xs gs ds (shared_in c.gone vs) co n g g' u own c.held below ts) (set_twice cs co (in_progress (upward (lua (frame n w own) ∷ below))) (in_progress (upward (lua (frame n u own) ∷ below))))
      (framed chain fs ws (slice_set cs co (in_progress (upward (lua (frame n w own) ∷ below)))) gs ds (shared_in c.gone vs) co n g g' w own c.held below ts k u own)
  done_keeps (m ∷ os) a own e c ws cs u k =
      let k1 = cells_keep m a own e c ws (slice_set cs co (in_progress (upward (lua (frame n w own) ∷ below)))) k in
      let c1 : Captured = captured_after m a c in
      let own1 : Activation = effect m g.code env own in
      let ws1 : List Cell = cells_after m co (length below) own ws in
      let k2 = framed chain fs ws1 (slice_set cs co (in_progress (upward (lua (frame n w own) ∷ below)))) gs ds (shared_in c1.gone vs) co n g g' w own c1.held below ts k1 w own1 in
      done_keeps os (effect m g.code env a) own1 (effect_alike g.code env a own e m) c1 ws1 cs u
      (subst (λ xs. MiddleOf chain fs ws1 xs gs ds (shared_in c1.gone vs) co n g g' w own1 c1.held below ts) (set_twice cs co (in_progress (upward (lua (frame n w own) ∷ below))) (in_progress (upward (lua (frame n w own1) ∷ below)))) k2)

-- the same, as a row does them in a world
pub done_middle : (M : World) (T : TalkWorld) (co n : ℕ) (g : Function) (g' : talk.Function Prototype) (w u : Wait Value) (env : List Value) (a own : Activation) (c : Captured) (below : List Frame) (ts : List TalkFrame) (os : List Own) → Alike a own
    → Middle M T (shared_in c.gone T.cells) co n g g' w own c.held below ts
    → Middle (with_done M co n w own g below u os env) T (shared_in (captured_done os g.code env a c).gone T.cells) co n g g' u (done os g.code env own) (captured_done os g.code env a c).held below ts
done_middle M T co n g g' w u env a own c below ts os e k =
    done_keeps M.functions T.cells T.functions T.coroutines M.chain co n g g' w env below ts os a own e c M.cells M.coroutines u
    (framed M.chain M.functions M.cells M.coroutines T.functions T.coroutines (shared_in c.gone T.cells) co n g g' w own c.held below ts k w own)

-- one of them
pub own_middle : (M : World) (T : TalkWorld) (co n : ℕ) (g : Function) (g' : talk.Function Prototype) (w : Wait Value) (env : List Value) (a own : Activation) (c : Captured) (below : List Frame) (ts : List TalkFrame) (m : Own) → Alike a own
    → Middle M T (shared_in c.gone T.cells) co n g g' w own c.held below ts
    → Middle (with_top M co n w own g below (cells_after m co (length below) own M.cells) w (effect m g.code env own)) T (shared_in (captured_after m a c).gone T.cells) co n g g' w (effect m g.code env own) (captured_after m a c).held below ts
own_middle M T co n g g' w env a own c below ts m e k = done_middle M T co n g g' w w env a own c below ts (m ∷ []) e k

module _ (rows : Primitives Prototype) (shown : List ℕ) (when : When) (n : ℕ) (g : Function) (g' : talk.Function Prototype) (dressed : Dressed g g') (pc : ℕ) where
  -- a talks, and own is the activation of its frame
  abbrev pub RowLeads : Wait Value → Text → Type 0
  RowLeads w t =
      (env : List Value) (a own : Activation) (c : Captured) (M : World) (T : TalkWorld) (co : ℕ) (below : List Frame) (ts : List TalkFrame)
      → Alike a own → a.pc ≡ pc → Good g.code pc w (length env) t → T.now ≡ talks → T.printed ≡ shown → Around M T → Middle M T (shared_in c.gone T.cells) co n g g' w own c.held below ts
      → Leads rows shown (turns codes_run (as_known g'.has_lines (talk g.code t env a c)) T n ts) (run (expand_by when t) env M)

  -- an ask, with its line as it is known
  pub asked : (q : Ask Prototype) → without_name q ≡ q → (a : Activation) (c : Captured) (T : TalkWorld) (ts : List TalkFrame) (k : Answer → Activation → Captured → State)
      → turns codes_run (as_known g'.has_lines (says_so q g.code a c k)) T n ts
      ≡ handle codes_run q (record T { cells = shared_in (share c a) T.cells }) (record { function = n; line = line_known g.code a.pc; shared = share c a; goes = λ x. k x (record a { registers = brought c.held x.shared a.registers }) (record { held = c.held; gone = [] }) }) ts
  asked q z a c T ts k = ap (λ nx. turns codes_run nx T n ts) (says_known g'.has_lines g'.source g.code a.pc dressed.named.own q z (share c a) (λ x. k x (record a { registers = brought c.held x.shared a.registers }) (record { held = c.held; gone = [] })))

  -- after an answer the text goes on, with these registers
  pub again : (w : Wait Value) (t : Text) → RowLeads w t → (env : List Value) (a own : Activation) (rs : List Value) (held : Held) (M : World) (T : TalkWorld) (co : ℕ) (below : List Frame) (ts : List TalkFrame)
      → Fixed a own → ((r : ℕ) → nth rs r ≡ nth own.registers r) × (length own.registers ≤ length rs) → a.pc ≡ pc → Good g.code pc w (length env) t → T.printed ≡ shown → Around M T → Middle M T T.cells co n g g' w own held below ts
      → Leads rows shown (record T { frames = talking n (amid t env (record a { registers = rs }) (record { held = held; gone = [] })) ∷ ts; now = talks }) (run (expand_by when t) env M)
  again w t ih env a own rs held M T co below ts x q e gd said around k =
      let b : Activation = record a { registers = rs } in
      let s : State = amid t env b (record { held = held; gone = [] }) in
      let V : TalkWorld = record T { frames = talking n s ∷ ts; now = talks } in
      let al : Alike b own = record { fixed = record { pc = x.pc; varargs = x.varargs; pending = x.pending; opened = x.opened }; values = q.0; size = q.1 } in
      leads_on rows shown T n s ts (run (expand_by when t) env M)
      (subst (λ U. Leads rows shown U (run (expand_by when t) env M)) (sym (talk_tick T n s ts g g' k.talks_there dressed))
      (ih env b own (record { held = held; gone = [] }) M V co below ts al e gd refl said around k))

  -- an answer that brings back what the cells hold
  pub reply_leads : (w : Wait Value) (t : Text) → RowLeads w t → (env : List Value) (a own : Activation) (c : Captured) (M : World) (T : TalkWorld) (co : ℕ) (below : List Frame) (ts : List TalkFrame)
      → Fixed a own → a.pc ≡ pc → Good g.code pc w (length env) t → T.printed ≡ shown → Around M T → Middle M T T.cells co n g g' w own c.held below ts → RegistersPair T.cells c.held a.registers own.registers
      → Leads rows shown (record T { frames = talking n (amid t env (record a { registers = brought c.held (shared_out (share c a) T.cells) a.registers }) (record { held = c.held; gone = [] })) ∷ ts; now = talks }) (run (expand_by when t) env M)
  reply_leads w t ih env a own c M T co below ts x e gd said around k p =
      again w t ih env a own (brought c.held (shared_out (share c a) T.cells) a.registers) c.held M T co below ts x (share_in c.held a.registers own.registers T.cells a.registers c.gone p.size p.off p.on) e gd said around k

  -- what an activation hears that waits
  abbrev pub hears : Wait Value → Activation → Captured → Answer → State
  hears u a c x = heard u g.code x (record a { registers = brought c.held x.shared a.registers }) (record { held = c.held; gone = [] })

  abbrev pub asker_of : Wait Value → Activation → Captured → Asker State
  asker_of u a c = record { function = n; line = line_known g.code a.pc; shared = share c a; goes = hears u a c }

  pub sleeps : (u : Wait Value) (a own : Activation) (c : Captured) (M : World) (T : TalkWorld) (co : ℕ) (below : List Frame) (ts : List TalkFrame) → Fixed a own → IsWaiting u → Around M T
      → Middle M T T.cells co n g g' u own c.held below ts → RegistersPair T.cells c.held a.registers own.registers → Joined false M (record T { frames = waiting (asker_of u a c) ∷ ts })
  sleeps u a own c M T co below ts x i around k p =
      waits_joined M T T.cells co n g g' u own around false c.held below ts (waiting (asker_of u a c)) k
      (a, record { number = refl; function = g; there = k.there; gone = c.gone; shares = refl; at_line = refl; waits = i; next = λ x _. refl; own = as_one a own x; not_own = k.not_own }, p)

  -- an error of the own step
  left_alike : (v : Value) (p : Prototype) (pc : ℕ) (a : Activation) (c : Captured) (r : Reply) → IsLeft r → amid (after (leaving (known nil)) p pc r) (told_values (leaving (known nil)) r) a c ≡ amid (after (leaving v) p pc r) (told_values (leaving v) r) a c
  left_alike v p pc a c (values vs) i = absurd i
  left_alike v p pc a c (faulted text) i = absurd i
  left_alike v p pc a c (left e) i = refl

  upward_back : (ms : List Frame) → reverse (upward ms) ≡ ms
  upward_back ms = ap reverse (sym (reverse_is ms)) ∙ reverse-reverse ms

  pub raise_leads : (w : Wait Value) (text : List ℕ) → RowLeads w (raise text)
  raise_leads w text env a own c M T co below ts al e gd now said around k =
      subst (λ nx. Leads rows shown (turns codes_run nx T n ts) (run (expand_by when (raise text)) env M)) (sym (says_known g'.has_lines g'.source g.code a1.pc dressed.named.own (raises text) refl (share c1 a1) (hears (leaving (known nil)) a1 c1)))
      (by_move rows shown U (begin_leaving text) (λ _ _. stop raised) env M _ (leaving_move M co n w own g below k.last k.runs k.there text env) (
        0,
        error_raised W U (talk.blamed U0 text) (ap (λ e. e ∷ []) same) refl (told_now true W U0 (raises_error (talk.blamed U0 text)) (moved true W0 U0 (v0 ∷ []) joined)),
      ))
    where
      v0 : Value
      v0 = blamed M text

      a1 : Activation
      a1 = done (close_cells 0 ∷ keep_pending ∷ []) g.code [] a

      own1 : Activation
      own1 = done (close_cells 0 ∷ keep_pending ∷ []) g.code [] own

      al1 : Alike a1 own1
      al1 = done_alike (close_cells 0 ∷ keep_pending ∷ []) g.code [] a own al

      c1 : Captured
      c1 = captured_done (close_cells 0 ∷ keep_pending ∷ []) g.code [] a c

      W0 : World
      W0 = with_done M co n w own g below (leaving v0) (close_cells 0 ∷ keep_pending ∷ []) []

      W : World
      W = record W0 { moving = v0 ∷ [] }

      vs1 : List Value
      vs1 = shared_in (share c1 a1) T.cells

      U0 : TalkWorld
      U0 = record T { cells = vs1; frames = raising (asker_of (leaving (known nil)) a1 c1) ∷ ts }

      U : TalkWorld
      U = now_in U0 (raises_error (talk.blamed U0 text))

      at_rest : Middle W0 T vs1 co n g g' (leaving v0) own1 c1.held below ts × RegistersPair vs1 c1.held a1.registers own1.registers
      at_rest = flushed W0.chain W0.functions W0.cells W0.coroutines T.functions T.coroutines T.cells co n g g' (leaving v0) a1 own1 below ts c1 al1 (done_middle M T co n g g' w (leaving v0) [] a own c below ts (close_cells 0 ∷ keep_pending ∷ []) al k)

      pair : LuaPair true M.functions vs1 (frame n (leaving v0) own1) (asker_of (leaving (known nil)) a1 c1) c1.held
      pair = (
        a1,
        record { number = refl; function = g; there = k.there; gone = c1.gone; shares = refl; at_line = refl; waits = tt; next = λ x i. left_alike v0 g.code a1.pc (record a1 { registers = brought c1.held x.shared a1.registers }) (record { held = c1.held; gone = [] }) x.reply i; own = as_one a1 own1 al1.fixed; not_own = at_rest.0.not_own },
        at_rest.1,
      )

      joined : Joined true W0 U0
      joined = waits_joined W0 T vs1 co n g g' (leaving v0) own1 around true c1.held below ts (raising (asker_of (leaving (known nil)) a1 c1)) at_rest.0 pair

      -- the place is the same, before and behind
      same : v0 ≡ talk.blamed U0 text
      same =
          ap (λ o. limited (elim (bind o (λ s. slice_get (filter_map (frame_place M) (reverse s.frames)) 0)) as (λ _. List ℕ) [ None ↦ [] | Some text ↦ text ] ++ text)) (stack_now M co n w own g below k.last k.runs)
          ∙ ap (λ frames. limited (elim (slice_get (filter_map (frame_place M) frames) 0) as (λ _. List ℕ) [ None ↦ [] | Some text ↦ text ] ++ text)) (upward_back (lua (frame n w own) ∷ below))
          ∙ ap (λ place. limited (place ++ text)) (below_places M U0 k.functions true (lua (frame n (leaving v0) own1) ∷ below) (raising (asker_of (leaving (known nil)) a1 c1) ∷ ts) (c1.held ∷ at_rest.0.more) (pair, at_rest.0.waits) 0)
