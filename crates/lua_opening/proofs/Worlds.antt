-- The world of the libraries, part by part.
use Rattle.std.proofs.Common.{◌≡◌, ℕ, zero, suc, List, [], ◌∷◌, ◌++◌, map, length, Option, Some, None, refl, ap, sym, subst, ◌∙◌, append_assoc, ◌+◌, ◌≤◌, arith}
use Rattle.std.specs.Prelude.{slice_get, codes}
use Rattle.int_core.specs.Value.{a_table, object, greatest_string}
use Rattle.code_core.specs.Prototype.{Prototype}
use Rattle.library_rows.specs.Library.{Library}
use Rattle.library_rows.specs.PreludeText.{prelude_functions}
use Rattle.list_laws.proofs.Items.{append_nil, get_old}
use Rattle.machine_core.specs.World.{closed, World}
use Rattle.machine_runs.specs.Opening.{numbers, prelude_function, opening}
use Rattle.object_pool.specs.Pool.{Pool}
use Rattle.table_core.specs.declared.value.FuncId.{FuncId}
use Rattle.table_core.specs.declared.value.TableId.{TableId}
use Rattle.table_core.specs.declared.value.CoroId.{CoroId}
use Rattle.table_core.specs.declared.value.Value.{Value as Kept}
use Rattle.table_core.specs.declared.value.Value.TheVariants.{Table}
use Rattle.table_core.specs.Table.{Contents}
use Rattle.lua_heap.specs.declared.world.Cell.TheVariants.{Closed, Open}
use Rattle.lua_heap.specs.declared.world.World.{World as Memory}
use Rattle.lua_heap.specs.Adding.{Begins}
use Rattle.lua_heap.specs.Cells.{AreListed, CellsAreListed, open_cells_in}
use Rattle.lua_heap.specs.Changes.{AddsCell}
use Rattle.lua_heap.specs.Codes.{functions}
use Rattle.lua_heap.specs.Opening.{opened_world}
use Rattle.lua_heap.specs.Plain.{table, function, cell, coroutine, plain}
use Rattle.lua_heap.specs.Reading.{value, text_or, text_of, too_long, zeros}
use Rattle.lua_meaning.specs.Opening.{entries_of, prelude_of}
use Rattle.lua_opening.specs.Opened.{tables_of}
use Rattle.lua_opening.specs.Functions.{shares, AddsFunctions}
use Rattle.lua_heap.proofs.Reading.{length_zeros}

-- worlds are the same where their parts are
pub same_parts : (V W : World) → V.heap ≡ W.heap → V.functions ≡ W.functions → V.cells ≡ W.cells → V.coroutines ≡ W.coroutines → V.globals ≡ W.globals
    → V.prelude_environment ≡ W.prelude_environment → V.prelude_functions ≡ W.prelude_functions → V.special_key ≡ W.special_key → V.max_depth ≡ W.max_depth
    → V.main ≡ W.main → V.chain ≡ W.chain → V.moving ≡ W.moving → V.printed ≡ W.printed → V.fuel ≡ W.fuel → V ≡ W
same_parts V W a b c d e f g h i j k l m n =
    ap (λ x. record V { heap = x }) a
    ∙ ap (λ x. record V { heap = W.heap; functions = x }) b
    ∙ ap (λ x. record V { heap = W.heap; functions = W.functions; cells = x }) c
    ∙ ap (λ x. record V { heap = W.heap; functions = W.functions; cells = W.cells; coroutines = x }) d
    ∙ ap (λ x. record V { heap = W.heap; functions = W.functions; cells = W.cells; coroutines = W.coroutines; globals = x }) e
    ∙ ap (λ x. record V { heap = W.heap; functions = W.functions; cells = W.cells; coroutines = W.coroutines; globals = W.globals; prelude_environment = x }) f
    ∙ ap (λ x. record W { prelude_functions = x; special_key = V.special_key; max_depth = V.max_depth; main = V.main; chain = V.chain; moving = V.moving; printed = V.printed; fuel = V.fuel }) g
    ∙ ap (λ x. record W { special_key = x; max_depth = V.max_depth; main = V.main; chain = V.chain; moving = V.moving; printed = V.printed; fuel = V.fuel }) h
    ∙ ap (λ x. record W { max_depth = x; main = V.main; chain = V.chain; moving = V.moving; printed = V.printed; fuel = V.fuel }) i
    ∙ ap (λ x. record W { main = x; chain = V.chain; moving = V.moving; printed = V.printed; fuel = V.fuel }) j
    ∙ ap (λ x. record W { chain = x; moving = V.moving; printed = V.printed; fuel = V.fuel }) k
    ∙ ap (λ x. record W { moving = x; printed = V.printed; fuel = V.fuel }) l
    ∙ ap (λ x. record W { printed = x; fuel = V.fuel }) m
    ∙ ap (λ x. record W { fuel = x }) n

none_of : {A B : Type 0} (f : A → B) (xs : List A) → map f xs ≡ [] → xs ≡ []
none_of f [] e = refl
none_of f (x ∷ xs) e = absurd (cc)

pub entries_length : (fs : List (List ℕ × Library)) (ps : List Prototype) → length ps ≡ length fs → length (entries_of fs ps) ≡ length ps
entries_length [] [] h = refl
entries_length [] (p ∷ ps) h = absurd (omega (arith, h))
entries_length (f ∷ fs) [] h = absurd (omega (arith, h))
entries_length (f ∷ fs) (p ∷ ps) h = ap suc (entries_length fs ps (omega (arith, h)))

entries_functions : (fs : List (List ℕ × Library)) (ps : List Prototype) → length ps ≡ length fs → map prelude_function (entries_of fs ps) ≡ map (shares 0) ps
entries_functions [] [] h = refl
entries_functions [] (p ∷ ps) h = absurd (omega (arith, h))
entries_functions (f ∷ fs) [] h = absurd (omega (arith, h))
entries_functions (f ∷ fs) (p ∷ ps) h = ap (λ l. shares 0 p ∷ l) (entries_functions fs ps (omega (arith, h)))

pub too_long_is : (n : ℕ) (text : List ℕ) → length text ≤ greatest_string → too_long n ≡ text → ⊥
unfolding too_long
too_long_is n text short q = let a = ap length q in let b = length_zeros (suc greatest_string + n) in omega (arith, a, b, short)

-- a short text that is read is there, so it is read so among more strings
pub still_read : (texts more : List (List ℕ)) (n : ℕ) (text : List ℕ) → text_of texts n ≡ text → length text ≤ greatest_string → text_of (texts ++ more) n ≡ text
still_read texts more n text e short = by (slice_get texts n) refl
  where
    by : (o : Option (List ℕ)) → slice_get texts n ≡ o → text_of (texts ++ more) n ≡ text
    by (Some t) g = ap (text_or n) (get_old texts more n t g) ∙ sym (ap (text_or n) g) ∙ e
    by None g = absurd (too_long_is n text short (sym (ap (text_or n) g) ∙ e))

-- a closed cell alone is in order
never_open : (v : Kept) (n : ℕ) (co : CoroId) (frame register : ℕ) → slice_get (Closed v ∷ []) n ≡ Some (Open co frame register) → ⊥
never_open v zero co frame register e = absurd (cc)
never_open v (suc n) co frame register e = absurd (cc)

closed_listed : (v : Kept) → AreListed (Closed v ∷ []) []
closed_listed v = record {
  listed = λ id co frame register own e f. absurd (cc);
  opened = λ id co frame register own e f. absurd (cc);
  held = λ id co frame register e. absurd (never_open v id.0 co frame register e);
  once = λ n own e. absurd (cc);
}

module _ (first celled filled : Memory) (ps : List Prototype) (texts : List (List ℕ)) (tables : Pool Contents) (meta : TableId) where
  abbrev pub last : Memory
  last = record filled { strings = texts; tables = tables; string_meta = Some meta }

  module _ (opened : (fuel : ℕ) → plain first fuel ≡ opened_world fuel) (a : AddsCell first celled (Closed (Table first.prelude.env))) (f : AddsFunctions celled filled 0 ps) (b : Begins (List ℕ) filled.strings texts) where
    -- what is not changed
    abbrev kept : Memory
    kept = record first { strings = texts; codes = filled.codes; funcs = filled.funcs; prelude = record first.prelude { funcs = filled.prelude.funcs }; cells = celled.cells; tables = tables; string_meta = Some meta }

    last_is : last ≡ kept
    last_is =
        ap (λ (W : Memory). record W { strings = texts; tables = tables; string_meta = Some meta }) f.extends.rest
        ∙ ap (λ (W : Memory). record W { strings = texts; codes = filled.codes; funcs = filled.funcs; prelude = record W.prelude { funcs = filled.prelude.funcs }; tables = tables; string_meta = Some meta }) a.rest

    no_cells : first.cells.objects ≡ []
    no_cells = none_of (cell first.strings) first.cells.objects (ap (λ (W : World). W.cells) (opened 0))

    no_coroutines : first.coros.objects ≡ []
    no_coroutines = none_of (coroutine first.strings) first.coros.objects (ap (λ (W : World). W.coroutines) (opened 0))

    all_begins : (more : List (List ℕ)) × (texts ≡ first.strings ++ more)
    all_begins =
        let x = f.extends.strings in
        (x.more ++ b.more, b.is ∙ ap (λ l. l ++ b.more) (x.is ∙ ap (λ (W : Memory). W.strings ++ x.more) a.rest) ∙ append_assoc first.strings x.more b.more)

    key_is : text_of texts first.spkey.0 ≡ codes "__persist"
    key_is = ap (λ texts. text_of texts first.spkey.0) all_begins.1 ∙ still_read first.strings all_begins.0 first.spkey.0 (codes "__persist") (ap (λ (W : World). W.special_key) (opened 0)) (omega arith)

    pub opening_is : length ps ≡ length prelude_functions → meta.0 ≡ 7 → map (table texts) tables.objects ≡ tables_of (prelude_of ps) → (fuel : ℕ) → plain last fuel ≡ record (opening (prelude_of ps)) { fuel = fuel }
    unfolding opening
    opening_is n m t fuel =
        let o = opened 0 in
        ap (λ W. plain W fuel) last_is
        ∙ same_parts (plain kept fuel) (record (opening (prelude_of ps)) { fuel = fuel })
        (ap (λ ts. record { tables = ts; string_metatable = Some meta.0 }) t ∙ ap (λ (k : ℕ). record { tables = tables_of (prelude_of ps); string_metatable = Some k }) m)
        (ap (λ codes. map (function codes) filled.funcs.objects) (sym (append_nil (functions filled.codes))) ∙ f.read [] ∙ sym (entries_functions prelude_functions ps n))
        (ap (map (cell texts)) (a.objects ∙ ap (λ cs. cs ++ Closed (Table first.prelude.env) ∷ []) no_cells) ∙ ap (λ (k : ℕ). closed (object a_table k) ∷ []) (ap (λ (W : World). W.prelude_environment) o))
        (ap (map (coroutine texts)) no_coroutines)
        (ap (λ (W : World). W.globals) o)
        (ap (λ (W : World). W.prelude_environment) o)
        (f.named ∙ ap (numbers 0) (sym (entries_length prelude_functions ps n)))
        key_is
        (ap (λ (W : World). W.max_depth) o)
        (ap (λ (W : World). W.main) o)
        (ap (λ (W : World). W.chain) o)
        (ap (map (value texts)) (none_of (value first.strings) first.moving.items (ap (λ (W : World). W.moving) o)))
        (ap (λ (W : World). W.printed) o)
        refl

    pub listed_is : CellsAreListed last
    listed_is =
        subst (λ (W : Memory). CellsAreListed W) (sym last_is)
        (subst (λ cells. AreListed cells (map open_cells_in first.coros.objects)) (sym (a.objects ∙ ap (λ cs. cs ++ Closed (Table first.prelude.env) ∷ []) no_cells))
        (subst (λ coros. AreListed (Closed (Table first.prelude.env) ∷ []) (map open_cells_in coros)) (sym no_coroutines) (closed_listed (Table first.prelude.env))))

-- before the prelude's functions there are none

pub no_functions : (W : Memory) → ((fuel : ℕ) → plain W fuel ≡ opened_world fuel) → W.funcs.objects ≡ []
no_functions W o = none_of (function (functions W.codes)) W.funcs.objects (ap (λ (W : World). W.functions) (o 0))

pub no_names : (W : Memory) → ((fuel : ℕ) → plain W fuel ≡ opened_world fuel) → W.prelude.funcs.items ≡ []
no_names W o = none_of (λ (f : FuncId). f.0) W.prelude.funcs.items (ap (λ (W : World). W.prelude_functions) (o 0))

pub no_cell : (W : Memory) → ((fuel : ℕ) → plain W fuel ≡ opened_world fuel) → length W.cells.objects ≡ 0
no_cell W o = ap length (none_of (cell W.strings) W.cells.objects (ap (λ (W : World). W.cells) (o 0)))
