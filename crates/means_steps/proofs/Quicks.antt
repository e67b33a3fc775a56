-- Asks that are answered at once: upvalues, new tables and functions, lists put into tables, units of the budget.
use Rattle.lua_meaning.specs.Step.{Primitives}
use Rattle.std.proofs.Common.{ℕ, zero, suc, ◌+◌, ◌≡◌, List, [], ◌∷◌, ◌++◌, length, drop, Option, Some, None, refl, sym, ap, subst, ◌∙◌, length-append, Bool, true, false}
use Rattle.std.specs.Prelude.{slice_get, slice_set, cond, option_map}
use Rattle.code_core.specs.Prototype.{Prototype, Prototypes, none, more, list_of}
use Rattle.int_core.specs.Value.{Value, object, a_table, a_function, bind, nth}
use Rattle.int_core.specs.Heap.{Heap, add_table, filled_table}
use Rattle.int_core.specs.Ask.{Captured, Ask, reads_upvalue, writes_upvalue, makes_table, makes_function, fills_table, pays, values, values_in, brought, stuck}
use Rattle.list_laws.proofs.Items.{get_old}
use Rattle.machine_core.specs.World.{Function, Cell, Wait, Activation, Frame, World, read_cell, write_cell}
use Rattle.machine_core.specs.Text.{Arg, arg, Quick, read_upvalue, write_upvalue, make_table, make_function, fill_table, pay, Text, quick}
use Rattle.machine_core.specs.Moves.{outside, made, Made, captured, stop, spent, Outcome, run}
use Rattle.machine_core.specs.FrameRows.{When, expand_by}
use Rattle.machine_core.specs.Talk.{State, amid, talk, says_so, names_of}
use Rattle.means_steps.proofs.Alike.{Alike}
use Rattle.means_steps.proofs.Texts.{Good}
use Rattle.lua_meaning.specs.World as talk
use Rattle.lua_meaning.specs.World.{Asker, talks, breaks, as_known, shared_in, second, cell_of, without_name, answered_at_once}
use Rattle.lua_meaning.specs.Asks.{turns, handle, made_in, of_maker, cells_named, gets_function, pays_unit, one}
use Rattle.code_means.specs.Runs.{codes_run}
use Rattle.machine_means.specs.Joined.{TalkFrame, TalkWorld, Dressed, Named, AllNamed, Both, FunctionsPair, RegistersPair, line_known}
use Rattle.machine_means.proofs.FrameWrites.{below_length}
use Rattle.means_steps.proofs.Middle.{Around, Middle, below_more, others_more}
use Rattle.means_steps.proofs.Opens.{both_names}
use Rattle.means_steps.proofs.Cells.{cell_read, cell_written}
use Rattle.means_steps.proofs.TopMoves.{quick_move}
use Rattle.means_steps.specs.Steps.{Leads}
use Rattle.means_steps.proofs.Leads.{go_on, by_move, says_known}
use Rattle.means_steps.proofs.Answered.{share, flushed, brought_at_once, RowLeads, again}

-- an inner function has the names of its maker

inner_named : (lines : Bool) (source : List ℕ) (ps : Prototypes) (i : ℕ) (q : Prototype) → AllNamed lines source ps → slice_get (list_of ps) i ≡ Some q → Named lines source q
inner_named lines source none i q k e = absurd (cc)
inner_named lines source (more own inner rest) zero q k e =
    let d : record { own = own; inner = inner } ≡ q = cc in subst (Named lines source) d (record { own = k.0; inner = k.1 })
inner_named lines source (more own inner rest) (suc i) q k e = inner_named lines source rest i q k.2 e

-- both worlds have one function more

abbrev both_last : Option Function → Option (talk.Function Prototype) → Type 0
both_last p q = Both Dressed p q

pub lengths : (fs : List Function) (gs : List (talk.Function Prototype)) → FunctionsPair fs gs → length fs ≡ length gs
lengths [] [] k = refl
lengths [] (g ∷ gs) k = absurd (k 0)
lengths (f ∷ fs) [] k = absurd (k 0)
lengths (f ∷ fs) (g ∷ gs) k = ap suc (lengths fs gs (λ n. k (suc n)))

pub pairs_more : (fs : List Function) (gs : List (talk.Function Prototype)) (f : Function) (g : talk.Function Prototype) → FunctionsPair fs gs → Dressed f g → FunctionsPair (fs ++ f ∷ []) (gs ++ g ∷ [])
pairs_more [] [] f g k d zero = d
pairs_more [] [] f g k d (suc n) = tt
pairs_more [] (y ∷ gs) f g k d n = absurd (k 0)
pairs_more (x ∷ fs) [] f g k d n = absurd (k 0)
pairs_more (x ∷ fs) (y ∷ gs) f g k d zero = k 0
pairs_more (x ∷ fs) (y ∷ gs) f g k d (suc n) = pairs_more fs gs f g (λ n. k (suc n)) d n

module _ (rows : Primitives Prototype) (shown : List ℕ) (when : When) (n : ℕ) (g : Function) (g' : talk.Function Prototype) (dressed : Dressed g g') (pc : ℕ) (w : Wait Value) where
  -- a text that hangs on what was read is good with what was read behind
  pub good_more : (env vs : List Value) (t : Text) → Good g.code pc w (length env + length vs) t → Good g.code pc w (length (env ++ vs)) t
  good_more env vs t k = subst (λ l. Good g.code pc w l t) (sym (length-append env vs)) k

  module _ (t : ℕ → Text) (ih : (i : ℕ) → RowLeads rows shown when n g g' dressed pc w (t i)) (env : List Value) (a own : Activation) (c : Captured) (M : World) (T : TalkWorld) (co : ℕ) (below : List Frame) (ts : List TalkFrame)
      (al : Alike a own) (e : a.pc ≡ pc) (gd : (more : ℕ) → Good g.code pc w (length env + more) (t (length env))) (now : T.now ≡ talks) (said : T.printed ≡ shown) (around : Around M T) (k : Middle M T (shared_in c.gone T.cells) co n g g' w own c.held below ts) where
    abbrev vs1 : List Value
    vs1 = shared_in (share c a) T.cells

    abbrev V : TalkWorld
    V = record T { cells = shared_in (share c a) T.cells }

    abbrev side : Quick → TalkWorld
    side q = turns codes_run (as_known g'.has_lines (talk g.code (quick q t) env a c)) T n ts

    -- how the activation goes on, and the one that asks
    abbrev goes : Rattle.int_core.specs.Ask.Answer → State
    goes x = amid (t (length env)) (env ++ values_in x.reply) (record a { registers = brought c.held x.shared a.registers }) (record { held = c.held; gone = [] })

    abbrev asker : Asker State
    asker = record { function = n; line = line_known g.code a.pc; shared = share c a; goes = goes }

    -- the ask, with its line as it is known
    asked : (q : Ask Prototype) → without_name q ≡ q → turns codes_run (as_known g'.has_lines (says_so q g.code a c (λ x b d. amid (t (length env)) (env ++ values_in x.reply) b d))) T n ts ≡ handle codes_run q V asker ts
    asked q z = ap (λ nx. turns codes_run nx T n ts) (says_known g'.has_lines g'.source g.code a.pc dressed.named.own q z (share c a) goes)

    rested : Middle M T (shared_in (share c a) T.cells) co n g g' w own c.held below ts × RegistersPair (shared_in (share c a) T.cells) c.held a.registers own.registers
    rested = flushed M.chain M.functions M.cells M.coroutines T.functions T.coroutines T.cells co n g g' w a own below ts c al k

    -- it is answered at once in worlds that stand so
    plainly : (M1 : World) (T1 : TalkWorld) (below1 : List Frame) (xs : List Value) → T1.printed ≡ shown → Around M1 T1 → Middle M1 T1 T1.cells co n g g' w own c.held below1 ts
        → Leads rows shown (answered_at_once T1 asker 0 (values xs) ts) (run (expand_by when (t (length env))) (env ++ xs) M1)
    plainly M1 T1 below1 xs said1 around1 k1 =
        again rows shown when n g g' dressed pc w (t (length env)) (ih (length env)) (env ++ xs) a own (brought c.held (Rattle.std.specs.Prelude.map second (share c a)) a.registers) c.held M1 T1 co below1 ts al.fixed (brought_at_once c.held a own c.gone al) e
        (good_more env xs (t (length env)) (gd (length xs))) said1 around1 k1

    -- the machine's move
    abbrev after_quick : Quick → Option (Made Bool) → Outcome
    after_quick q o = go_on rows shown (outside q) (λ i _. expand_by when (t i)) env o

    own_is : (u i : ℕ) → slice_get g.cells u ≡ Some i → cell_of V n u ≡ Some i
    own_is u i x = ap (λ o. bind o (λ f. slice_get f.cells u)) k.talks_there ∙ ap (λ cs. slice_get cs u) dressed.cells ∙ x

    pub read_leads : (u : ℕ) → Leads rows shown (turns codes_run (as_known g'.has_lines (talk g.code (quick (read_upvalue u) t) env a c)) T n ts) (run (expand_by when (quick (read_upvalue u) t)) env M)
    read_leads u =
        subst (λ X. Leads rows shown X (run (expand_by when (quick (read_upvalue u) t)) env M)) (sym (asked (reads_upvalue u) refl))
        (by_move rows shown (says (cell_of V n u)) (outside (read_upvalue u)) (λ i _. expand_by when (t i)) env M _ (quick_move M co n w own g below k.last k.runs k.there (read_upvalue u) env) (by (slice_get g.cells u) refl))
      where
        says : Option ℕ → TalkWorld
        says o = elim o as (λ _. TalkWorld) [ None ↦ breaks V | Some d ↦ answered_at_once V asker 0 (one (nth V.cells d)) ts ]

        value : (i : ℕ) → slice_get g.cells u ≡ Some i → (cell : Cell) → slice_get M.cells i ≡ Some cell → (o : Option Value) → read_cell M cell ≡ o → Leads rows shown (says (cell_of V n u)) (after_quick (read_upvalue u) (bind o (λ v. made M (v ∷ []) true)))
        value i x cell y None z = tt
        value i x cell y (Some v) z =
            let r : nth vs1 i ≡ v = cell_read M T vs1 co n g g' w own c.held below ts rested.0 a.registers rested.1 i cell v y z in
            subst (λ o. Leads rows shown (says o) (run (expand_by when (t (length env))) (env ++ v ∷ []) M)) (sym (own_is u i x))
            (subst (λ v'. Leads rows shown (answered_at_once V asker 0 (values (v' ∷ [])) ts) (run (expand_by when (t (length env))) (env ++ v ∷ []) M)) (sym r) (plainly M V below (v ∷ []) said around rested.0))

        inner : (i : ℕ) → slice_get g.cells u ≡ Some i → (o : Option Cell) → slice_get M.cells i ≡ o → Leads rows shown (says (cell_of V n u)) (after_quick (read_upvalue u) (bind {A = ℕ × Cell} (bind o (λ cell. Some (i, cell))) (λ c. bind (read_cell M c.1) (λ v. made M (v ∷ []) true))))
        inner i x None y = tt
        inner i x (Some cell) y = value i x cell y (read_cell M cell) refl

        by : (o : Option ℕ) → slice_get g.cells u ≡ o → Leads rows shown (says (cell_of V n u)) (after_quick (read_upvalue u) (bind {A = ℕ × Cell} (bind o (λ c. bind (slice_get M.cells c) (λ cell. Some (c, cell)))) (λ c. bind (read_cell M c.1) (λ v. made M (v ∷ []) true))))
        by None x = tt
        by (Some i) x = inner i x (slice_get M.cells i) refl

    pub write_leads : (u : ℕ) (v : Arg) → Leads rows shown (turns codes_run (as_known g'.has_lines (talk g.code (quick (write_upvalue u v) t) env a c)) T n ts) (run (expand_by when (quick (write_upvalue u v) t)) env M)
    write_leads u v =
        subst (λ X. Leads rows shown X (run (expand_by when (quick (write_upvalue u v) t)) env M)) (sym (asked (writes_upvalue u (arg env v)) refl))
        (by_move rows shown (says (cell_of V n u)) (outside (write_upvalue u v)) (λ i _. expand_by when (t i)) env M _ (quick_move M co n w own g below k.last k.runs k.there (write_upvalue u v) env) (by (slice_get g.cells u) refl))
      where
        says : Option ℕ → TalkWorld
        says o = elim o as (λ _. TalkWorld) [ None ↦ breaks V | Some d ↦ answered_at_once (record V { cells = slice_set V.cells d (arg env v) }) asker 0 (values []) ts ]

        value : (i : ℕ) → slice_get g.cells u ≡ Some i → (cell : Cell) → slice_get M.cells i ≡ Some cell → (o : Option Value) → read_cell M cell ≡ o → Leads rows shown (says (cell_of V n u)) (after_quick (write_upvalue u v) (bind o (λ _. made (write_cell M i cell (arg env v)) [] true)))
        value i x cell y None z = tt
        value i x cell y (Some old) z =
            let q = cell_written M T vs1 co n g g' w own c.held below ts rested.0 a.registers rested.1 around i u x cell (arg env v) old y z in
            subst (λ o. Leads rows shown (says o) (run (expand_by when (t (length env))) (env ++ []) (write_cell M i cell (arg env v)))) (sym (own_is u i x))
            (plainly (write_cell M i cell (arg env v)) (record V { cells = slice_set vs1 i (arg env v) }) q.below' [] said q.around' q.middle)

        inner : (i : ℕ) → slice_get g.cells u ≡ Some i → (o : Option Cell) → slice_get M.cells i ≡ o → Leads rows shown (says (cell_of V n u)) (after_quick (write_upvalue u v) (bind {A = ℕ × Cell} (bind o (λ cell. Some (i, cell))) (λ c. bind (read_cell M c.1) (λ _. made (write_cell M c.0 c.1 (arg env v)) [] true))))
        inner i x None y = tt
        inner i x (Some cell) y = value i x cell y (read_cell M cell) refl

        by : (o : Option ℕ) → slice_get g.cells u ≡ o → Leads rows shown (says (cell_of V n u)) (after_quick (write_upvalue u v) (bind {A = ℕ × Cell} (bind o (λ c. bind (slice_get M.cells c) (λ cell. Some (c, cell)))) (λ c. bind (read_cell M c.1) (λ _. made (write_cell M c.0 c.1 (arg env v)) [] true))))
        by None x = tt
        by (Some i) x = inner i x (slice_get M.cells i) refl

    pub table_leads : Leads rows shown (turns codes_run (as_known g'.has_lines (talk g.code (quick make_table t) env a c)) T n ts) (run (expand_by when (quick make_table t)) env M)
    table_leads =
        subst (λ X. Leads rows shown X (run (expand_by when (quick make_table t)) env M)) (sym (asked makes_table refl))
        (by_move rows shown (answered_at_once (record V { heap = add_table T.heap }) asker 0 (one (object a_table (length T.heap.tables))) ts) (outside make_table) (λ i _. expand_by when (t i)) env M _ (quick_move M co n w own g below k.last k.runs k.there make_table env)
        (subst (λ (H : Heap). Leads rows shown (answered_at_once (record V { heap = add_table T.heap }) asker 0 (one (object a_table (length H.tables))) ts) (run (expand_by when (t (length env))) (env ++ object a_table (length M.heap.tables) ∷ []) (record M { heap = add_table M.heap }))) around.heap
        (plainly (record M { heap = add_table M.heap }) (record V { heap = add_table T.heap }) below (object a_table (length M.heap.tables) ∷ []) said (record { heap = ap add_table around.heap; globals = around.globals; printed = around.printed; fuel = around.fuel; chain = around.chain }) rested.0)))

    pub fill_leads : (v : Arg) (last slot : ℕ) → Leads rows shown (turns codes_run (as_known g'.has_lines (talk g.code (quick (fill_table v last slot) t) env a c)) T n ts) (run (expand_by when (quick (fill_table v last slot) t)) env M)
    fill_leads v last slot =
        subst (λ X. Leads rows shown X (run (expand_by when (quick (fill_table v last slot) t)) env M)) (sym (asked (fills_table (arg env v) last (drop slot env)) refl))
        (by_move rows shown (says (filled_table T.heap (arg env v) last (drop slot env))) (outside (fill_table v last slot)) (λ i _. expand_by when (t i)) env M _ (quick_move M co n w own g below k.last k.runs k.there (fill_table v last slot) env)
        (subst (λ H. Leads rows shown (says (filled_table H (arg env v) last (drop slot env))) (after_quick (fill_table v last slot) (bind (filled_table M.heap (arg env v) last (drop slot env)) (λ H. made (record M { heap = H }) [] true)))) around.heap
        (by (filled_table M.heap (arg env v) last (drop slot env)))))
      where
        says : Option Heap → TalkWorld
        says o = elim o as (λ _. TalkWorld) [ None ↦ breaks V | Some H ↦ answered_at_once (record V { heap = H }) asker 0 (values []) ts ]

        by : (o : Option Heap) → Leads rows shown (says o) (after_quick (fill_table v last slot) (bind o (λ H. made (record M { heap = H }) [] true)))
        by None = tt
        by (Some H) = plainly (record M { heap = H }) (record V { heap = H }) below [] said (record { heap = refl; globals = around.globals; printed = around.printed; fuel = around.fuel; chain = around.chain }) rested.0

    pub function_leads : (i : ℕ) → Leads rows shown (turns codes_run (as_known g'.has_lines (talk g.code (quick (make_function i) t) env a c)) T n ts) (run (expand_by when (quick (make_function i) t)) env M)
    function_leads i =
        by_move rows shown (says_ask (abbrev_ask (slice_get (list_of g.code.inner) i))) (outside (make_function i)) (λ i _. expand_by when (t i)) env M _ (quick_move M co n w own g below k.last k.runs k.there (make_function i) env)
        (by (slice_get (list_of g.code.inner) i) refl)
      where
        abbrev_ask : Option Prototype → Option (Ask Prototype)
        abbrev_ask o = bind o (λ q. bind (names_of q.own.upvalues c.held) (λ names. Some (makes_function q names)))

        says_ask : Option (Ask Prototype) → TalkWorld
        says_ask o = turns codes_run (as_known g'.has_lines (elim o [ None ↦ stuck | Some ask ↦ says_so ask g.code a c (λ x b' d'. amid (t (length env)) (env ++ values_in x.reply) b' d') ])) T n ts

        cells : (q : Prototype) → slice_get (list_of g.code.inner) i ≡ Some q → (o : Option (List ℕ)) → captured q.own.upvalues co (length below) g.cells M.cells ≡ o
            → Leads rows shown (says_ask (abbrev_ask (Some q))) (after_quick (make_function i) (bind o (λ cells. made (record M { functions = M.functions ++ record { code = q; cells = cells } ∷ [] }) (object a_function (length M.functions) ∷ []) true)))
        cells q at None x = tt
        cells q at (Some ds) x =
            let l = below_length false M.functions (shared_in c.gone T.cells) below ts k.more k.waits in
            let m = both_names M.cells (shared_in c.gone T.cells) k.held k.cells co c.held k.more k.holds V n g' k.talks_there g.cells dressed.cells q.own.upvalues ds (subst (λ z. captured q.own.upvalues co z g.cells M.cells ≡ Some ds) (sym l) x) in
            let new : Function = record { code = q; cells = ds } in
            let also : talk.Function Prototype = of_maker g' q ds in
            let M1 : World = record M { functions = M.functions ++ new ∷ [] } in
            let V1 : TalkWorld = record V { functions = T.functions ++ also ∷ [] } in
            let out : Outcome = run (expand_by when (t (length env))) (env ++ object a_function (length M.functions) ∷ []) M1 in
            let makes : made_in V n q m.0 ≡ Some also = ap (λ o. bind o (λ f. option_map (of_maker f q) (cells_named V n m.0))) k.talks_there ∙ ap (option_map (of_maker g' q)) m.2 in
            let r = rested.0 in
            let k1 : Middle M1 V1 vs1 co n g g' w own c.held below ts = record {
              functions = pairs_more M.functions T.functions new also r.functions (record { code = refl; cells = refl; named = inner_named g'.has_lines g'.source g.code.inner i q dressed.named.inner at });
              there = get_old M.functions (new ∷ []) n g r.there;
              talks_there = get_old T.functions (also ∷ []) n g' r.talks_there;
              in_range = r.in_range;
              not_own = r.not_own;
              last = r.last;
              runs = r.runs;
              talks = r.talks;
              held = r.held;
              more = r.more;
              holds = r.holds;
              cells = r.cells;
              waits = below_more M.functions (new ∷ []) vs1 false below ts r.more r.waits;
              depth = r.depth;
              others = others_more M.functions (new ∷ []) vs1 co M.coroutines T.coroutines r.held r.others;
            } in
            subst (λ o. Leads rows shown (says_ask (bind o (λ names. Some (makes_function q names)))) out) (sym m.1)
            (subst (λ X. Leads rows shown X out) (sym (asked (makes_function q m.0) refl))
            (subst (λ o. Leads rows shown (gets_function V asker ts o) out) (sym makes)
            (subst (λ l. Leads rows shown (answered_at_once V1 asker 0 (one (object a_function l)) ts) out) (lengths M.functions T.functions k.functions)
            (plainly M1 V1 below (object a_function (length M.functions) ∷ []) said (record { heap = around.heap; globals = around.globals; printed = around.printed; fuel = around.fuel; chain = around.chain }) k1))))

        by : (o : Option Prototype) → slice_get (list_of g.code.inner) i ≡ o
            → Leads rows shown (says_ask (abbrev_ask o)) (after_quick (make_function i) (bind o (λ q. bind (captured q.own.upvalues co (length below) g.cells M.cells) (λ cells. made (record M { functions = M.functions ++ record { code = q; cells = cells } ∷ [] }) (object a_function (length M.functions) ∷ []) true))))
        by None x = tt
        by (Some q) x = cells q x (captured q.own.upvalues co (length below) g.cells M.cells) refl

    pub pay_leads : Leads rows shown (turns codes_run (as_known g'.has_lines (talk g.code (quick pay t) env a c)) T n ts) (run (expand_by when (quick pay t)) env M)
    pay_leads =
        subst (λ X. Leads rows shown X (run (expand_by when (quick pay t)) env M)) (sym (asked pays refl))
        (by_move rows shown (pays_unit T.fuel V asker ts) (outside pay) (λ i paid. cond paid (expand_by when (t i)) (stop spent)) env M _ (quick_move M co n w own g below k.last k.runs k.there pay env)
        (subst (λ x. Leads rows shown (pays_unit x V asker ts) (go_on rows shown (outside pay) (λ i paid. cond paid (expand_by when (t i)) (stop spent)) env (elim M.fuel [ zero ↦ made M [] false | suc y ↦ made (record M { fuel = y }) [] true ]))) around.fuel (by M.fuel)))
      where
        by : (x : ℕ) → Leads rows shown (pays_unit x V asker ts) (go_on rows shown (outside pay) (λ i paid. cond paid (expand_by when (t i)) (stop spent)) env (elim x [ zero ↦ made M [] false | suc y ↦ made (record M { fuel = y }) [] true ]))
        by zero = (0, (refl, said))
        by (suc y) = plainly (record M { fuel = y }) (record V { fuel = y }) below [] said (record { heap = around.heap; globals = around.globals; printed = around.printed; fuel = refl; chain = around.chain }) rested.0

  pub quick_leads : (q : Quick) (t : ℕ → Text) → ((i : ℕ) → RowLeads rows shown when n g g' dressed pc w (t i)) → RowLeads rows shown when n g g' dressed pc w (quick q t)
  quick_leads (read_upvalue u) t ih env a own c M T co below ts al e gd now said around k = read_leads t ih env a own c M T co below ts al e gd now said around k u
  quick_leads (write_upvalue u v) t ih env a own c M T co below ts al e gd now said around k = write_leads t ih env a own c M T co below ts al e gd now said around k u v
  quick_leads make_table t ih env a own c M T co below ts al e gd now said around k = table_leads t ih env a own c M T co below ts al e gd now said around k
  quick_leads (make_function i) t ih env a own c M T co below ts al e gd now said around k = function_leads t ih env a own c M T co below ts al e gd now said around k i
  quick_leads (fill_table v last slot) t ih env a own c M T co below ts al e gd now said around k = fill_leads t ih env a own c M T co below ts al e gd now said around k v last slot
  quick_leads pay t ih env a own c M T co below ts al e gd now said around k = pay_leads t ih env a own c M T co below ts al e gd now said around k
