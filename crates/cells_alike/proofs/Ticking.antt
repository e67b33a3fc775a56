-- A step of both worlds, or of the first one alone.
use Rattle.std.proofs.Common.{◌≡◌, ⊎_elim, ℕ, suc, ◌<◌, ◌≤◌, Bool, true, false, List, [], ◌∷◌, ◌++◌, length, Option, Some, None, refl, sym, ◌∙◌, ap, subst, arith}
use Rattle.std.proofs.lemmas.List.{length-map}
use Rattle.std.proofs.lemmas.Option.{slice_get-map}
use Rattle.std.specs.Prelude.{ℤ, pos, slice_get, map, option_map, drop, codes}
use Rattle.int_core.specs.Value.{Value, shape, known, string, object, a_table, a_function, a_coroutine, nth}
use Rattle.int_core.specs.Limits.{limited}
use Rattle.int_core.specs.Operations.{is_function}
use Rattle.int_core.specs.Ask.{Ask, reads_upvalue, writes_upvalue, makes_table, makes_function, fills_table, pays, opens, operates, calls, calls_last, marks, closes, raises, leaves, Answer, Next, goes_on, says, stuck}
use Rattle.tree_core.specs.Tree.{Body}
use Rattle.tree_activation.specs.Work.{State}
use Rattle.tree_activation.specs.Activation.{step}
use Rattle.lua_meaning.specs.World.{System, Function, Frame, Coroutine, Now, talks, gives_back, raises_error, unwinds, calls_primitive, ends, World, now_in, breaks, second, without_name, as_known, shared_in}
use Rattle.lua_meaning.specs.Calls.{text, truth}
use Rattle.lua_meaning.specs.Asks.{none as no_values, handle, turns, talks_on}
use Rattle.library_rows.specs.Look.{Done, done}
use Rattle.library_rows.specs.Look.{refused as no_result, raised as an_error}
use Rattle.library_rows.specs.Arguments.{wrong_type}
use Rattle.library_rows.specs.Library.{Primitive, base_error, base_pcall, base_xpcall, coroutine_close, coroutine_create, coroutine_isyieldable, coroutine_resume, coroutine_running, coroutine_status, coroutine_yield, prelude_build, prelude_out, primitive_at}
use Rattle.load_rows.specs.Loading.{Builds, load_of}
use Rattle.lua_meaning.specs.Step.{placed, error_by, level_in, creates, with_coroutine, status_of, runs_one, bytes_in, row, after_row, environment_in, does_primitive, has_ended, tick_by, tick}
use Rattle.lua_meaning.specs.Opening.{primitives}
use Rattle.meaning_cells.specs.Alike.{Member, Pairs, Cells, AreEven, Onward, Answered, after_asks, CarriesOwn, SameAsk, new_cell, Moves, FirstAlone, SecondOpens, BothOpen, Together}
use Rattle.meaning_cells.proofs.Relation.{Rel, same, early, steps_behind}
use Rattle.meaning_cells.proofs.Lists.{in_size}
use Rattle.meaning_cells.proofs.Steps.{Behind, early_like, same_like}
use Rattle.cells_alike.proofs.Joint.{Made, Waiting, Layer, is_talking, is_waiting, is_raising, is_protected, is_handled, is_handling, is_closing, Thread, is_fresh, Joint, function_one, function_two, frame_one, frame_two, coroutine_one, coroutine_two, one, two, cells_for, OwnedAt, LayersAt, layers_in, head, Quiet, TalksIn, talking_in, Stands, quiet, stopped, busy, Both, both_of}
use Rattle.cells_alike.proofs.Moving.{more_map, get_more, where_same, either_by, stay_both, now_both, breaks_both, raises_both, yields_both}
use Rattle.cells_alike.proofs.Answering.{first_form, second_form, calls_over_both, handed_both, raised_both, unwound_both, resumes_both, closes_both}
use Rattle.cells_alike.proofs.Storing.{IsOther, cells_with, layers_pass, place_below, base_pass, flushed, flush_pass, rel_cells, opened_early, opened_late, opened_both, owned_more, early_pass, late_pass, both_pass}
use Rattle.cells_alike.proofs.Loading.{loads_both}
use Rattle.cells_alike.proofs.Turning.{opt_both, handle_both}

-- primitives

row_both : (J : Joint) (o : Option Done) → Quiet J → Both (after_row (one J) o) (after_row (two J) o)
row_both J None q = breaks_both J
row_both J (Some (done H vs)) q = now_both (record J { heap = H }) (gives_back vs) q
row_both J (Some (no_result why)) q = raises_both J why q
row_both J (Some (an_error H e)) q = now_both (record J { heap = H }) (raises_error e) q

placed_same : (J : Joint) (z : ℤ) (v : Value) → placed (one J) z v ≡ placed (two J) z v
placed_same J (pos (suc level)) (known (string s)) = ap (λ place. limited (place ++ s)) (where_same J level)
placed_same J z v = refl

error_both : (J : Joint) (v level : Value) (o : Option ℤ) → Quiet J → Both (error_by (one J) v level o) (error_by (two J) v level o)
error_both J v level None q = raises_both J (wrong_type 2 (codes "error") (codes "number") (shape level)) q
error_both J v level (Some z) q =
    let K : Joint = record J { now = raises_error (placed (one J) z v) } in
    record { there = K; same = refl; same_too = ap (λ e. now_in (two J) (raises_error e)) (sym (placed_same J z v)); stands = quiet K q }

creates_both : (J : Joint) (f : Value) → Quiet J → Both (creates (one J) f) (creates (two J) f)
creates_both J f q =
    let cs = J.coroutines in
    let K : Joint = record J { coroutines = cs ++ is_fresh f ∷ []; now = gives_back (object a_coroutine (length (map coroutine_one cs)) ∷ []) } in
    either_by (is_function f) (is_function f) _ _ _ _ refl
    (record {
      there = K;
      same = ap (λ xs. record (one K) { coroutines = xs }) (more_map coroutine_one cs (is_fresh f));
      same_too =
          ap (λ xs. record (two K) { coroutines = xs; now = gives_back (object a_coroutine (length (map coroutine_two cs)) ∷ []) }) (more_map coroutine_two cs (is_fresh f))
          ∙ ap (λ n. record (two K) { now = gives_back (object a_coroutine n ∷ []) }) (length-map cs coroutine_two ∙ sym (length-map cs coroutine_one));
      stands = quiet K (record {
        base = record {
          store = q.base.store;
          paired = q.base.paired;
          others = λ co c e. ⊎_elim (λ is. subst (λ z. LayersAt J.store co (layers_in z)) (sym is) tt) (λ old. q.base.others co c old) (get_more cs (is_fresh f) co c e);
          running_one = λ c e. ⊎_elim (λ is. ap layers_in is) (λ old. q.base.running_one c old) (get_more cs (is_fresh f) (head J.chain) c e);
        };
        even = q.even;
        layers = q.layers;
      });
    })
    (raises_both J (wrong_type 1 (codes "create") (codes "function") (shape f)) q)

with_both : (J : Joint) (f : List ℕ) (v : Value) (F G : ℕ → Coroutine State → World Body State) → Quiet J
    → ((co : ℕ) (c : Thread) → LayersAt J.store co (layers_in c) → Both (F co (coroutine_one c)) (G co (coroutine_two c))) → Both (with_coroutine (one J) f v F) (with_coroutine (two J) f v G)
with_both J f (object a_coroutine co) F G q more =
    subst (λ o. Both (elim o as (λ _. World Body State) [ None ↦ breaks (one J) | Some c ↦ F co c ]) (with_coroutine (two J) f (object a_coroutine co) G)) (sym (slice_get-map coroutine_one J.coroutines co))
    (subst (λ o. Both (elim (option_map coroutine_one (slice_get J.coroutines co)) as (λ _. World Body State) [ None ↦ breaks (one J) | Some c ↦ F co c ]) (elim o as (λ _. World Body State) [ None ↦ breaks (two J) | Some c ↦ G co c ]))
    (sym (slice_get-map coroutine_two J.coroutines co)) (by (slice_get J.coroutines co) refl))
  where
    by : (o : Option Thread) → slice_get J.coroutines co ≡ o
        → Both (elim (option_map coroutine_one o) as (λ _. World Body State) [ None ↦ breaks (one J) | Some c ↦ F co c ]) (elim (option_map coroutine_two o) as (λ _. World Body State) [ None ↦ breaks (two J) | Some c ↦ G co c ])
    by None e = breaks_both J
    by (Some c) e = more co c (q.base.others co c e)
with_both J f (known p) F G q more = raises_both J (wrong_type 1 f (codes "coroutine") (shape (known p))) q
with_both J f (object a_table m) F G q more = raises_both J (wrong_type 1 f (codes "coroutine") (shape (object a_table m))) q
with_both J f (object a_function m) F G q more = raises_both J (wrong_type 1 f (codes "coroutine") (shape (object a_function m))) q

status_same : (c : Thread) → status_of (coroutine_one c) ≡ status_of (coroutine_two c)
status_same (is_fresh body) = refl
status_same _ = refl

runs_one_both : (J : Joint) (chain : List ℕ) → Quiet J → Both (runs_one (one J) chain) (runs_one (two J) chain)
runs_one_both J [] q = breaks_both J
runs_one_both J (co ∷ chain) q = now_both J (gives_back (object a_coroutine co ∷ truth false ∷ [])) q

primitive_both : (builds : Builds Body) (J : Joint) (p : Primitive) (vs : List Value) → Quiet J → Both (does_primitive first_form builds p (one J) vs) (does_primitive second_form builds p (two J) vs)
primitive_both builds J base_error vs q = error_both J (nth vs 0) (nth vs 1) (level_in (nth vs 1)) q
primitive_both builds J base_pcall vs q = calls_over_both J is_protected (nth vs 0) (drop 1 vs) q tt
primitive_both builds J base_xpcall vs q = calls_over_both J (is_handled (nth vs 1)) (nth vs 0) (drop 2 vs) q tt
primitive_both builds J coroutine_create vs q = creates_both J (nth vs 0) q
primitive_both builds J coroutine_resume vs q = with_both J (codes "resume") (nth vs 0) _ _ q (λ co c l. resumes_both J co c (drop 1 vs) q l)
primitive_both builds J coroutine_yield vs q = yields_both J vs q
primitive_both builds J coroutine_close vs q = with_both J (codes "close") (nth vs 0) _ _ q (λ co c l. closes_both J co c q l)
primitive_both builds J coroutine_status vs q =
    with_both J (codes "status") (nth vs 0) _ _ q (λ co c l.
    subst (λ z. Both (now_in (one J) (gives_back (text (status_of (coroutine_one c)) ∷ []))) (now_in (two J) (gives_back (text z ∷ [])))) (status_same c) (now_both J (gives_back (text (status_of (coroutine_one c)) ∷ [])) q))
primitive_both builds J coroutine_isyieldable vs q = now_both J (gives_back (truth true ∷ [])) q
primitive_both builds J coroutine_running vs q = runs_one_both J J.chain q
primitive_both builds J prelude_out vs q = now_both (record J { printed = J.printed ++ bytes_in (nth vs 0) }) (gives_back []) q
primitive_both builds J prelude_build vs q = loads_both J (environment_in (one J) vs) (load_of builds (shape (nth vs 0)) (shape (nth vs 1)) (shape (nth vs 2))) q
primitive_both builds J p vs q = row_both J (row p J.heap vs) q

-- no activation is on top
idle_both : (J : Joint) (frames : List Layer) → LayersAt J.store (head J.chain) frames → Both (talks_on first_form (one J) (map frame_one frames)) (talks_on second_form (two J) (map frame_two frames))
idle_both J [] l = breaks_both J
idle_both J (is_talking f s t ∷ below) l = absurd l.0
idle_both J (is_waiting w ∷ below) l = breaks_both J
idle_both J (is_raising w ∷ below) l = breaks_both J
idle_both J (is_protected ∷ below) l = breaks_both J
idle_both J (is_handled h ∷ below) l = breaks_both J
idle_both J (is_handling ∷ below) l = breaks_both J
idle_both J (is_closing e vs ∷ below) l = breaks_both J

quiet_tick : (builds : Builds Body) (J : Joint) (now : Now) → Quiet J
    → Both (tick_by first_form (primitives builds) now (one (record J { now = now }))) (tick_by second_form (primitives builds) now (two (record J { now = now })))
quiet_tick builds J talks q = idle_both (record J { now = talks }) J.frames q.layers
quiet_tick builds J (gives_back vs) q = handed_both (record J { now = gives_back vs }) vs J.frames q q.layers
quiet_tick builds J (raises_error e) q = raised_both (record J { now = raises_error e }) e J.frames q q.layers
quiet_tick builds J (unwinds e) q = unwound_both (record J { now = unwinds e }) e J.frames q q.layers
quiet_tick builds J (calls_primitive n vs) q =
    let K : Joint = record J { now = calls_primitive n vs } in
    opt_both (primitive_at n) (breaks (one K)) (breaks (two K)) (λ p. does_primitive first_form builds p (one K) vs) (λ p. does_primitive second_form builds p (two K) vs) (breaks_both K) (λ p. primitive_both builds K p vs q)
quiet_tick builds J (ends ending) q = stay_both (record J { now = ends ending }) q

-- an activation on top moves

unnamed : (pairs : Pairs) (q r : Ask Body) → SameAsk pairs q r → SameAsk pairs (without_name q) (without_name r)
unnamed pairs (makes_function body names) (makes_function other others) l = l
unnamed pairs (makes_function body names) r l = absurd (cc)
unnamed pairs (opens v) r l = absurd l
unnamed pairs (reads_upvalue u) r l = subst (λ z. SameAsk pairs (reads_upvalue u) (without_name z)) l refl
unnamed pairs (writes_upvalue u v) r l = subst (λ z. SameAsk pairs (writes_upvalue u v) (without_name z)) l refl
unnamed pairs makes_table r l = subst (λ z. SameAsk pairs makes_table (without_name z)) l refl
unnamed pairs (fills_table t last vs) r l = subst (λ z. SameAsk pairs (fills_table t last vs) (without_name z)) l refl
unnamed pairs pays r l = subst (λ z. SameAsk pairs pays (without_name z)) l refl
unnamed pairs (operates op vs) r l = subst (λ z. SameAsk pairs (operates op vs) (without_name z)) l refl
unnamed pairs (calls f vs) r l = subst (λ z. SameAsk pairs (calls f vs) (without_name z)) l refl
unnamed pairs (calls_last f vs) r l = subst (λ z. SameAsk pairs (calls_last f vs) (without_name z)) l refl
unnamed pairs (marks v name) r l = subst (λ z. SameAsk pairs (marks v (codes "?")) (without_name z)) l refl
unnamed pairs (closes v e) r l = subst (λ z. SameAsk pairs (closes v e) (without_name z)) l refl
unnamed pairs (raises why) r l = subst (λ z. SameAsk pairs (raises why) (without_name z)) l refl
unnamed pairs (leaves how) r l = subst (λ z. SameAsk pairs (leaves how) (without_name z)) l refl

module _ (J : Joint) (f : ℕ) (s t : State) (below : List Layer) (tk : TalksIn J s t below) where
  abbrev pub top : Joint
  top = talking_in J f s t below

  abbrev pub place : ℕ × ℕ
  place = (head J.chain, length below)

  abbrev pub both_turn : Bool → Next Body State → Next Body State → Type 0
  both_turn l x y = Both (turns first_form (as_known l x) (one top) f (map frame_one below)) (turns second_form (as_known l y) (two top) f (map frame_two below))

  asks_both : (q r : Ask Body) (line : Option ℕ) (shared also : List (ℕ × Value)) (k h : Answer → State) → SameAsk J.store.pairs q r → CarriesOwn (cells_for J.store tk.own) shared
      → AreEven (after_asks (cells_for J.store tk.own) shared also)
      → ((now : Cells) → Onward (after_asks (cells_for J.store tk.own) shared also) now → (x y : Answer) → Answered now shared also x y → Rel now (k x) (h y))
      → Both (handle first_form q (record (one top) { cells = shared_in shared J.store.cells }) (record { function = f; line = line; shared = shared; goes = k }) (map frame_one below))
      (handle second_form r (record (two top) { cells = shared_in also J.store.cells_too }) (record { function = f; line = line; shared = also; goes = h }) (map frame_two below))
  asks_both q r line shared also k h like carries even on =
      let T = flushed J.store shared also in
      let pass = flush_pass J.store place tk.own shared also tk.base.store tk.owned carries in
      let w : Waiting = record { function = f; line = line; shared = shared; also = also; goes = k; goes_too = h } in
      let owned : OwnedAt T place tk.own = λ c m. pass.owners c place (tk.owned c m) in
      handle_both (record top { store = T }) q r w below like
      (record {
        base = base_pass J.store T J.functions J.coroutines J.chain (length below) pass tk.base;
        even = even;
        layers = layers_pass J.store T (IsOther place) (head J.chain) below pass (λ n l. place_below (head J.chain) n (length below) l) tk.layers;
      })
      (record {
        asked = cells_for T tk.own;
        since = record { are = cells_with T place tk.own pass.store owned; more = λ c d h. h; own = λ c m. m; still = λ c m u. (u, refl) };
        owned = owned;
        on = on;
      })

  goes_both : (u v : State) → Rel (cells_for J.store tk.own) u v → Stands (talking_in J f u v below)
  goes_both u v like = busy J f u v below (record { base = tk.base; own = tk.own; owned = tk.owned; like = like; layers = tk.layers })

  moves_both : (l : Bool) (x y : Next Body State) → Moves Rel (cells_for J.store tk.own) x y → both_turn l x y
  moves_both true (goes_on u) (goes_on v) m = both_of (talking_in J f u v below) (goes_both u v m)
  moves_both false (goes_on u) (goes_on v) m = both_of (talking_in J f u v below) (goes_both u v m)
  moves_both true (says q line shared k) (says r other also h) m =
      subst (λ z. both_turn true (says q line shared k) (says r z also h)) m.1 (asks_both q r line shared also k h m.0 m.2 m.3 m.4)
  moves_both false (says q line shared k) (says r other also h) m =
      asks_both (without_name q) (without_name r) None shared also k h (unnamed J.store.pairs q r m.0) m.2 m.3 m.4
  moves_both true stuck stuck m = breaks_both top
  moves_both false stuck stuck m = breaks_both top
  moves_both l x y m = absurd m

  -- cells are opened

  abbrev opened_once : List (ℕ × Value) → List Value → Answer
  opened_once shared values = record { reply = no_values; shared = map second shared; cell = new_cell shared values }

  late_stands : (u v : State) (c d : ℕ) (also : List (ℕ × Value)) (w : Value) → Member c tk.own → Rel (cells_for (opened_late J.store c d also w) tk.own) u v
      → Stands (talking_in (record J { store = opened_late J.store c d also w }) f u v below)
  late_stands u v c d also w mine like =
      let T = opened_late J.store c d also w in
      let pass = late_pass J.store place tk.own c d also w tk.base.store tk.owned mine (rel_cells (cells_for T tk.own) u v like) in
      busy (record J { store = T }) f u v below (record {
        base = base_pass J.store T J.functions J.coroutines J.chain (length below) pass tk.base;
        own = tk.own;
        owned = tk.owned;
        like = like;
        layers = layers_pass J.store T (IsOther place) (head J.chain) below pass (λ n l. place_below (head J.chain) n (length below) l) tk.layers;
      })

  second_opens_both : (l : Bool) (x y : Next Body State) → SecondOpens Rel (cells_for J.store tk.own) x y → both_turn l x y
  second_opens_both true (goes_on u) (says (opens w) line also h) m =
      let b = opened_once also J.store.cells_too in
      both_of (talking_in (record J { store = opened_late J.store m.0 b.cell also w }) f u (h b) below) (late_stands u (h b) m.0 b.cell also w m.1 (m.3 b refl refl))
  second_opens_both false (goes_on u) (says (opens w) line also h) m =
      let b = opened_once also J.store.cells_too in
      both_of (talking_in (record J { store = opened_late J.store m.0 b.cell also w }) f u (h b) below) (late_stands u (h b) m.0 b.cell also w m.1 (m.3 b refl refl))
  second_opens_both l x y m = absurd m

  new_is : (shared : List (ℕ × Value)) → new_cell shared J.store.cells ≡ length J.store.owners
  new_is shared = in_size shared J.store.cells ∙ sym tk.base.store.count

  both_stands : (u v : State) (c d : ℕ) (shared also : List (ℕ × Value)) (w z : Value) → CarriesOwn (cells_for J.store tk.own) shared → c ≡ length J.store.owners
      → Rel (cells_for (opened_both J.store place c d shared also w z) (c ∷ tk.own)) u v → Stands (talking_in (record J { store = opened_both J.store place c d shared also w z }) f u v below)
  both_stands u v c d shared also w z carries number like =
      let T = opened_both J.store place c d shared also w z in
      let pass = both_pass J.store place tk.own (c ∷ tk.own) c d shared also w z tk.base.store tk.owned carries number (rel_cells (cells_for T (c ∷ tk.own)) u v like) in
      busy (record J { store = T }) f u v below (record {
        base = base_pass J.store T J.functions J.coroutines J.chain (length below) pass tk.base;
        own = c ∷ tk.own;
        owned = owned_more J.store place tk.own c tk.owned number;
        like = like;
        layers = layers_pass J.store T (IsOther place) (head J.chain) below pass (λ n l. place_below (head J.chain) n (length below) l) tk.layers;
      })

  both_open_both : (l : Bool) (x y : Next Body State) → BothOpen Rel (cells_for J.store tk.own) x y → both_turn l x y
  both_open_both true (says (opens w) line shared k) (says (opens z) other also h) m =
      let a = opened_once shared J.store.cells in
      let b = opened_once also J.store.cells_too in
      both_of (talking_in (record J { store = opened_both J.store place a.cell b.cell shared also w z }) f (k a) (h b) below)
      (both_stands (k a) (h b) a.cell b.cell shared also w z m.2 (new_is shared) (m.3 a b refl refl refl refl))
  both_open_both false (says (opens w) line shared k) (says (opens z) other also h) m =
      let a = opened_once shared J.store.cells in
      let b = opened_once also J.store.cells_too in
      both_of (talking_in (record J { store = opened_both J.store place a.cell b.cell shared also w z }) f (k a) (h b) below)
      (both_stands (k a) (h b) a.cell b.cell shared also w z m.2 (new_is shared) (m.3 a b refl refl refl refl))
  both_open_both l x y m = absurd m

-- how many steps the first world is behind at most
abbrev pub behind : {J : Joint} → Stands J → ℕ
behind (quiet J q) = 0
behind (stopped J ending l) = 0
behind (busy J f s t below tk) = steps_behind tk.like

-- the first world alone has gone on
pub record Ahead (X : World Body State) (J : Joint) (m : ℕ) : Type 0 where
  pub there : Joint
  pub same : X ≡ one there
  pub stays : two J ≡ two there
  pub stands : Stands there
  pub fewer : behind stands ≤ m

module _ (J : Joint) (f : ℕ) (s t : State) (below : List Layer) (tk : TalksIn J s t below) (m : ℕ) where
  abbrev pub ahead : Bool → Next Body State → Type 0
  ahead l x = Ahead (turns first_form (as_known l x) (one (top J f s t below tk)) f (map frame_one below)) (top J f s t below tk) m

  goes_ahead : (u : State) → Behind m (cells_for J.store tk.own) u t → ahead true (goes_on u)
  goes_ahead u b = record {
    there = talking_in J f u t below;
    same = refl;
    stays = refl;
    stands = busy J f u t below (record { base = tk.base; own = tk.own; owned = tk.owned; like = b.0; layers = tk.layers });
    fewer = b.1;
  }

  opens_ahead : (line : Option ℕ) (shared : List (ℕ × Value)) (v : Value) (k : Answer → State) → FirstAlone (Behind m) (cells_for J.store tk.own) (says (opens v) line shared k) t → ahead true (says (opens v) line shared k)
  opens_ahead line shared v k z =
      let a = opened_once J f s t below tk shared J.store.cells in
      let p = place J f s t below tk in
      let T = opened_early J.store p shared v in
      let b = z.1 a refl refl in
      let pass = early_pass J.store p tk.own (a.cell ∷ tk.own) shared v tk.base.store tk.owned z.0 (rel_cells (cells_for T (a.cell ∷ tk.own)) (k a) t b.0) in
      record {
        there = talking_in (record J { store = T }) f (k a) t below;
        same = refl;
        stays = refl;
        stands = busy (record J { store = T }) f (k a) t below (record {
          base = base_pass J.store T J.functions J.coroutines J.chain (length below) pass tk.base;
          own = a.cell ∷ tk.own;
          owned = owned_more J.store p tk.own a.cell tk.owned (new_is J f s t below tk shared);
          like = b.0;
          layers = layers_pass J.store T (IsOther p) (head J.chain) below pass (λ n l. place_below (head J.chain) n (length below) l) tk.layers;
        });
        fewer = b.1;
      }

  first_ahead : (l : Bool) (x : Next Body State) → FirstAlone (Behind m) (cells_for J.store tk.own) x t → ahead l x
  first_ahead true (goes_on u) z = goes_ahead u z
  first_ahead false (goes_on u) z = goes_ahead u z
  first_ahead true (says (opens v) line shared k) z = opens_ahead line shared v k z
  first_ahead false (says (opens v) line shared k) z = opens_ahead line shared v k z
  first_ahead l x z = absurd z

-- a step

pub data Step (builds : Builds Body) (J : Joint) (st : Stands J) : Type 0 where
  together : Both (tick first_form (primitives builds) (one J)) (tick second_form (primitives builds) (two J)) → Step builds J st
  alone : (K : Joint) (k : Stands K) → tick first_form (primitives builds) (one J) ≡ one K → two J ≡ two K → behind k < behind st → has_ended J.now ≡ false → Step builds J st

data Split (cs : Cells) (s t : State) (r : Rel cs s t) : Type 0 where
  as_one : Together Rel cs (step s) (step t) → Split cs s t r
  first_only : (m : ℕ) → FirstAlone (Behind m) cs (step s) t → m < steps_behind r → Split cs s t r

split : (cs : Cells) (s t : State) (r : Rel cs s t) → Split cs s t r
split cs _ _ (same v k control h d r l) = as_one (same_like Rel (λ _ _ _ z. z) cs v k control h d r l)
split cs _ _ (early v k line ns control h d scope r l) = first_only (length ns) (early_like cs v k line ns control h d scope r l) (omega arith)

abbrev top_by : System Body State → Option (Function Body) → World Body State → ℕ → State → List (Frame State) → World Body State
top_by system o W f s below = elim o as (λ _. World Body State) [ None ↦ breaks W | Some g ↦ turns system (as_known g.has_lines (system.steps g.made_of s)) W f below ]

busy_step : (builds : Builds Body) (J : Joint) (f : ℕ) (s t : State) (below : List Layer) (tk : TalksIn J s t below)
    → Step builds (talking_in J f s t below) (busy J f s t below tk)
busy_step builds J f s t below tk = by (slice_get J.functions f) refl where
  there : (o : Option Made) → slice_get J.functions f ≡ o
      → tick first_form (primitives builds) (one (talking_in J f s t below)) ≡ top_by first_form (option_map function_one o) (one (talking_in J f s t below)) f s (map frame_one below)
  there o e = ap (λ z. top_by first_form z (one (talking_in J f s t below)) f s (map frame_one below)) (slice_get-map function_one J.functions f ∙ ap (option_map function_one) e)

  there_too : (o : Option Made) → slice_get J.functions f ≡ o
      → tick second_form (primitives builds) (two (talking_in J f s t below)) ≡ top_by second_form (option_map function_two o) (two (talking_in J f s t below)) f t (map frame_two below)
  there_too o e = ap (λ z. top_by second_form z (two (talking_in J f s t below)) f t (map frame_two below)) (slice_get-map function_two J.functions f ∙ ap (option_map function_two) e)

  joined : (o : Option Made) → slice_get J.functions f ≡ o
      → Both (top_by first_form (option_map function_one o) (one (talking_in J f s t below)) f s (map frame_one below)) (top_by second_form (option_map function_two o) (two (talking_in J f s t below)) f t (map frame_two below))
      → Step builds (talking_in J f s t below) (busy J f s t below tk)
  joined o e b =
      together (subst (λ X. Both X (tick second_form (primitives builds) (two (talking_in J f s t below)))) (sym (there o e))
      (subst (λ Y. Both (top_by first_form (option_map function_one o) (one (talking_in J f s t below)) f s (map frame_one below)) Y) (sym (there_too o e)) b))

  moved : (g : Made) → slice_get J.functions f ≡ Some g → Split (cells_for J.store tk.own) s t tk.like → Step builds (talking_in J f s t below) (busy J f s t below tk)
  moved g e (as_one z) = ⊎_elim
      (λ m. joined (Some g) e (moves_both J f s t below tk g.has_lines (step s) (step t) m))
      (λ y. ⊎_elim
      (λ m. joined (Some g) e (second_opens_both J f s t below tk g.has_lines (step s) (step t) m))
      (λ m. joined (Some g) e (both_open_both J f s t below tk g.has_lines (step s) (step t) m)) y) z
  moved g e (first_only m z l) =
      let a = first_ahead J f s t below tk m g.has_lines (step s) z in
      let fewer = a.fewer in
      alone a.there a.stands (there (Some g) e ∙ a.same) a.stays (omega (arith, fewer, l)) refl

  by : (o : Option Made) → slice_get J.functions f ≡ o → Step builds (talking_in J f s t below) (busy J f s t below tk)
  by None e = joined None e (breaks_both (talking_in J f s t below))
  by (Some g) e = moved g e (split (cells_for J.store tk.own) s t tk.like)

pub step_both : (builds : Builds Body) (J : Joint) (st : Stands J) → Step builds J st
step_both builds _ (quiet J q) = together (quiet_tick builds J J.now q)
step_both builds _ (stopped J ending l) = together (record { there = record J { now = ends ending }; same = refl; same_too = refl; stands = stopped J ending l })
step_both builds _ (busy J f s t below tk) = busy_step builds J f s t below tk
