-- Who answers an ask answers it alike on both sides.
use Rattle.std.proofs.Common.{◌≡◌, ⊎_elim, ℕ, zero, suc, List, [], ◌∷◌, ◌++◌, length, Option, Some, None, refl, sym, ◌∙◌, ap, subst}
use Rattle.std.proofs.lemmas.List.{length-map}
use Rattle.std.proofs.lemmas.Option.{slice_get-map}
use Rattle.std.specs.Prelude.{slice_get, slice_set, map, option_map, codes}
use Rattle.int_core.specs.Value.{Value, object, a_table, a_function, is_nil, nth, bind}
use Rattle.int_core.specs.Heap.{filled_table, add_table}
use Rattle.int_core.specs.Operations.{Settled, found, ask, fault, cannot_arise, does, handler_in, of_close}
use Rattle.int_core.specs.Ask.{CellName, of_local, of_upvalue, returns, throws, Ask, reads_upvalue, writes_upvalue, makes_table, makes_function, fills_table, pays, opens, operates, calls, calls_last, marks, closes, raises, leaves, Reply, values, faulted}
use Rattle.tree_core.specs.Tree.{Body}
use Rattle.tree_activation.specs.Work.{State}
use Rattle.lua_meaning.specs.World.{Function, spent, gives_back, unwinds, ends, World, breaks, cell_of, second, answered, answered_at_once}
use Rattle.lua_meaning.specs.Asks.{one as one_value, none as no_values, cells_named, of_maker, made_in, gets_function, pays_unit, calls_for, calls_in_place, settled, handle}
use Rattle.list_laws.specs.Held.{Has}
use Rattle.meaning_cells.specs.Alike.{Pairs, SameCells, SameAsk, as_carried}
use Rattle.cells_alike.proofs.Joint.{Made, Waiting, Layer, is_waiting, is_raising, Joint, function_one, function_two, asker_one, asker_two, frame_one, frame_two, one, two, WaitsAt, LayerAt, ArePaired, head, Base, Stable, stopped, Both}
use Rattle.cells_alike.proofs.Moving.{more_map, get_more, either_by, now_both, breaks_both, raises_both}
use Rattle.cells_alike.proofs.Answering.{first_form, second_form, given_both, answered_both, calls_both}
use Rattle.cells_alike.proofs.Storing.{IsAny, layers_pass, base_pass_any, waits_any, written, write_pass, write_even}

-- nothing is asked of the frames that stand there while an activation asks, but of those below
abbrev pub RestsOn : Joint → List Layer → Type 0
RestsOn J below = Stable J.store J.functions J.coroutines J.chain below

abbrev pub WaitsOn : Joint → List Layer → Waiting → Type 0
WaitsOn J below w = WaitsAt J.store (head J.chain, length below) w

-- an answer at once
once_both : (J : Joint) (w : Waiting) (cell : ℕ) (r s : Reply) (below : List Layer) → r ≡ s → RestsOn J below → WaitsOn J below w
    → Both (answered_at_once (one J) (asker_one w) cell r (map frame_one below)) (answered_at_once (two J) (asker_two w) cell s (map frame_two below))
once_both J w cell r s below e q a =
    given_both (record J { frames = below }) w (record { reply = r; shared = map second w.shared; cell = cell }) (record { reply = s; shared = map second w.also; cell = cell }) below q a q.layers
    (record { reply = e; brings = as_carried refl refl; even = q.even })

pub opt_both : {C : Type 0} → (o : Option C) (X Y : World Body State) (F G : C → World Body State) → Both X Y → ((c : C) → Both (F c) (G c))
    → Both (elim o as (λ _. World Body State) [ None ↦ X | Some c ↦ F c ]) (elim o as (λ _. World Body State) [ None ↦ Y | Some c ↦ G c ])
opt_both None X Y F G x f = x
opt_both (Some c) X Y F G x f = f c

-- the cells of an outer variable

pub data OuterCells (pairs : Pairs) (o p : Option ℕ) : Type 0 where
  no_cell : o ≡ None → p ≡ None → OuterCells pairs o p
  a_pair : (c d : ℕ) → o ≡ Some c → p ≡ Some d → Has c d pairs → OuterCells pairs o p

cells_both : (pairs : Pairs) (o p : Option ℕ) (X Y : World Body State) (F G : ℕ → World Body State) → OuterCells pairs o p → Both X Y → ((c d : ℕ) → Has c d pairs → Both (F c) (G d))
    → Both (elim o as (λ _. World Body State) [ None ↦ X | Some c ↦ F c ]) (elim p as (λ _. World Body State) [ None ↦ Y | Some c ↦ G c ])
cells_both pairs o p X Y F G (no_cell e d) x f =
    subst (λ z. Both (elim z as (λ _. World Body State) [ None ↦ X | Some c ↦ F c ]) (elim p as (λ _. World Body State) [ None ↦ Y | Some c ↦ G c ])) (sym e)
    (subst (λ z. Both X (elim z as (λ _. World Body State) [ None ↦ Y | Some c ↦ G c ])) (sym d) x)
cells_both pairs o p X Y F G (a_pair c d e i h) x f =
    subst (λ z. Both (elim z as (λ _. World Body State) [ None ↦ X | Some c ↦ F c ]) (elim p as (λ _. World Body State) [ None ↦ Y | Some c ↦ G c ])) (sym e)
    (subst (λ z. Both (F c) (elim z as (λ _. World Body State) [ None ↦ Y | Some c ↦ G c ])) (sym i) (f c d h))

among : (pairs : Pairs) (cs ds : List ℕ) (u : ℕ) → ArePaired pairs cs ds → OuterCells pairs (slice_get cs u) (slice_get ds u)
among pairs [] [] u l = no_cell refl refl
among pairs (c ∷ cs) (d ∷ ds) zero l = a_pair c d refl refl l.0
among pairs (c ∷ cs) (d ∷ ds) (suc u) l = among pairs cs ds u l.1
among pairs [] (d ∷ ds) u l = absurd l
among pairs (c ∷ cs) [] u l = absurd l

abbrev cell_in : ℕ → Function Body → Option ℕ
cell_in u g = slice_get g.cells u

outer : (J : Joint) → Base J.store J.functions J.coroutines J.chain → (f u : ℕ) → OuterCells J.store.pairs (cell_of (one J) f u) (cell_of (two J) f u)
outer J b f u =
    subst (λ o. OuterCells J.store.pairs (bind o (cell_in u)) (bind (slice_get (map function_two J.functions) f) (cell_in u))) (sym (slice_get-map function_one J.functions f))
    (subst (λ o. OuterCells J.store.pairs (bind (option_map function_one (slice_get J.functions f)) (cell_in u)) (bind o (cell_in u))) (sym (slice_get-map function_two J.functions f))
    (by (slice_get J.functions f) refl))
  where
    by : (o : Option Made) → slice_get J.functions f ≡ o → OuterCells J.store.pairs (bind (option_map function_one o) (cell_in u)) (bind (option_map function_two o) (cell_in u))
    by None e = no_cell refl refl
    by (Some g) e = among J.store.pairs g.cells g.cells_too u (b.paired f g e)

-- new functions

-- the cells that a new function gets
data NamedCells (pairs : Pairs) (o p : Option (List ℕ)) : Type 0 where
  no_cells : o ≡ None → p ≡ None → NamedCells pairs o p
  are_pairs : (cs ds : List ℕ) → o ≡ Some cs → p ≡ Some ds → ArePaired pairs cs ds → NamedCells pairs o p

one_more : (pairs : Pairs) (o p : Option (List ℕ)) (c d : ℕ) → Has c d pairs → NamedCells pairs o p → NamedCells pairs (option_map (λ cells. c ∷ cells) o) (option_map (λ cells. d ∷ cells) p)
one_more pairs o p c d h (no_cells e i) = no_cells (ap (option_map (λ cells. c ∷ cells)) e) (ap (option_map (λ cells. d ∷ cells)) i)
one_more pairs o p c d h (are_pairs cs ds e i k) = are_pairs (c ∷ cs) (d ∷ ds) (ap (option_map (λ cells. c ∷ cells)) e) (ap (option_map (λ cells. d ∷ cells)) i) (h, k)

abbrev with_outer : Option (List ℕ) → Option ℕ → Option (List ℕ)
with_outer cs o = bind o (λ c. option_map (λ cells. c ∷ cells) cs)

one_outer : (pairs : Pairs) (o p : Option ℕ) (cs ds : Option (List ℕ)) → OuterCells pairs o p → NamedCells pairs cs ds → NamedCells pairs (with_outer cs o) (with_outer ds p)
one_outer pairs o p cs ds (no_cell e i) more = no_cells (ap (with_outer cs) e) (ap (with_outer ds) i)
one_outer pairs o p cs ds (a_pair c d e i h) more =
    subst (λ z. NamedCells pairs (with_outer cs z) (with_outer ds p)) (sym e) (subst (λ z. NamedCells pairs (with_outer cs (Some c)) (with_outer ds z)) (sym i) (one_more pairs cs ds c d h more))

named_paired : (J : Joint) → Base J.store J.functions J.coroutines J.chain → (f : ℕ) (names others : List CellName) → SameCells J.store.pairs names others
    → NamedCells J.store.pairs (cells_named (one J) f names) (cells_named (two J) f others)
named_paired J b f [] [] l = are_pairs [] [] refl refl tt
named_paired J b f (of_local c ∷ names) (of_local d ∷ others) l = one_more J.store.pairs _ _ c d l.0 (named_paired J b f names others l.1)
named_paired J b f (of_upvalue u ∷ names) (of_upvalue v ∷ others) l =
    subst (λ z. NamedCells J.store.pairs (with_outer (cells_named (one J) f names) (cell_of (one J) f u)) (with_outer (cells_named (two J) f others) (cell_of (two J) f z))) l.0
    (one_outer J.store.pairs (cell_of (one J) f u) (cell_of (two J) f u) (cells_named (one J) f names) (cells_named (two J) f others) (outer J b f u) (named_paired J b f names others l.1))
named_paired J b f (of_local c ∷ names) (of_upvalue v ∷ others) l = absurd l.0
named_paired J b f (of_upvalue u ∷ names) (of_local d ∷ others) l = absurd l.0
named_paired J b f [] (d ∷ others) l = absurd l
named_paired J b f (c ∷ names) [] l = absurd l

made_both : (J : Joint) (g : Made) (body : Body) (cs ds : List ℕ) (w : Waiting) (below : List Layer) → RestsOn J below → WaitsOn J below w → ArePaired J.store.pairs cs ds
    → Both (gets_function (one J) (asker_one w) (map frame_one below) (Some (of_maker (function_one g) body cs))) (gets_function (two J) (asker_two w) (map frame_two below) (Some (of_maker (function_two g) body ds)))
made_both J g body cs ds w below q a l =
    let fs = J.functions in
    let made : Made = record { made_of = body; source = g.source; has_lines = g.has_lines; cells = cs; cells_too = ds } in
    let K : Joint = record J { functions = fs ++ made ∷ [] } in
    let r = one_value (object a_function (length (map function_one fs))) in
    let s = one_value (object a_function (length (map function_two fs))) in
    subst (λ z. Both (answered_at_once (record (one J) { functions = z }) (asker_one w) 0 r (map frame_one below)) (gets_function (two J) (asker_two w) (map frame_two below) (Some (function_two made)))) (sym (more_map function_one fs made))
    (subst (λ z. Both (answered_at_once (one K) (asker_one w) 0 r (map frame_one below)) (answered_at_once (record (two J) { functions = z }) (asker_two w) 0 s (map frame_two below))) (sym (more_map function_two fs made))
    (once_both K w 0 r s below (ap (λ n. one_value (object a_function n)) (length-map fs function_one ∙ sym (length-map fs function_two)))
    (record {
      base = record {
        store = q.base.store;
        paired = λ n f e. ⊎_elim
            (λ is. subst (λ z. ArePaired J.store.pairs z.cells z.cells_too) (sym is) l)
            (λ old. q.base.paired n f old)
            (get_more fs made n f e);
        others = q.base.others;
        running_one = q.base.running_one;
      };
      even = q.even;
      layers = q.layers;
    })
    a))

abbrev made_by : Option (Function Body) → Body → Option (List ℕ) → Option (Function Body)
made_by o body cells = bind o (λ g. option_map (of_maker g body) cells)

makes_both : (J : Joint) (body : Body) (names others : List CellName) (w : Waiting) (below : List Layer) → RestsOn J below → WaitsOn J below w → SameCells J.store.pairs names others
    → Both (handle first_form (makes_function body names) (one J) (asker_one w) (map frame_one below)) (handle second_form (makes_function body others) (two J) (asker_two w) (map frame_two below))
makes_both J body names others w below q a l =
    subst (λ o. Both (gets_function (one J) (asker_one w) (map frame_one below) (made_by o body cs)) (gets_function (two J) (asker_two w) (map frame_two below) (made_in (two J) w.function body others))) (sym (slice_get-map function_one J.functions w.function))
    (subst (λ o. Both (gets_function (one J) (asker_one w) (map frame_one below) (made_by (option_map function_one (slice_get J.functions w.function)) body cs)) (gets_function (two J) (asker_two w) (map frame_two below) (made_by o body ds)))
    (sym (slice_get-map function_two J.functions w.function))
    (by (slice_get J.functions w.function) cs ds (named_paired J q.base w.function names others l)))
  where
    cs : Option (List ℕ)
    cs = cells_named (one J) w.function names

    ds : Option (List ℕ)
    ds = cells_named (two J) w.function others

    by : (o : Option Made) (xs ys : Option (List ℕ)) → NamedCells J.store.pairs xs ys
        → Both (gets_function (one J) (asker_one w) (map frame_one below) (made_by (option_map function_one o) body xs)) (gets_function (two J) (asker_two w) (map frame_two below) (made_by (option_map function_two o) body ys))
    by None xs ys n = breaks_both J
    by (Some g) xs ys (no_cells e d) =
        subst (λ z. Both (gets_function (one J) (asker_one w) (map frame_one below) (made_by (Some (function_one g)) body z)) (gets_function (two J) (asker_two w) (map frame_two below) (made_by (Some (function_two g)) body ys))) (sym e)
        (subst (λ z. Both (breaks (one J)) (gets_function (two J) (asker_two w) (map frame_two below) (made_by (Some (function_two g)) body z))) (sym d) (breaks_both J))
    by (Some g) xs ys (are_pairs xs' ys' e d k) =
        subst (λ z. Both (gets_function (one J) (asker_one w) (map frame_one below) (made_by (Some (function_one g)) body z)) (gets_function (two J) (asker_two w) (map frame_two below) (made_by (Some (function_two g)) body ys))) (sym e)
        (subst (λ z. Both (gets_function (one J) (asker_one w) (map frame_one below) (Some (of_maker (function_one g) body xs'))) (gets_function (two J) (asker_two w) (map frame_two below) (made_by (Some (function_two g)) body z))) (sym d)
        (made_both J g body xs' ys' w below q a k))

-- other asks

rests_with : (J : Joint) (below : List Layer) (l : Layer) → RestsOn J below → LayerAt J.store (head J.chain, length below) l → RestsOn J (l ∷ below)
rests_with J below l q a = record { base = q.base; even = q.even; layers = (a, q.layers) }

calls_for_both : (J : Joint) (w : Waiting) (below : List Layer) (f : Value) (vs : List Value) → RestsOn J below → WaitsOn J below w
    → Both (calls_for first_form (one J) (asker_one w) (map frame_one below) f vs) (calls_for second_form (two J) (asker_two w) (map frame_two below) f vs)
calls_for_both J w below f vs q a =
    let K : Joint = record J { frames = is_waiting w ∷ below } in
    let k = rests_with J below (is_waiting w) q a in
    calls_both K f vs (λ why V. answered V (asker_one w) (faulted why) (map frame_one below)) (λ why V. answered V (asker_two w) (faulted why) (map frame_two below)) k
    (λ why fuel. answered_both (record K { fuel = fuel }) w (faulted why) below k a q.layers)

in_place_both : (J : Joint) (w : Waiting) (below : List Layer) (f : Value) (vs : List Value) → RestsOn J below → WaitsOn J below w
    → Both (calls_in_place first_form (one J) (asker_one w) (map frame_one below) f vs) (calls_in_place second_form (two J) (asker_two w) (map frame_two below) f vs)
in_place_both J w below f vs q a =
    calls_both (record J { frames = below }) f vs (λ why V. answered_at_once V (asker_one w) 0 (faulted why) (map frame_one below)) (λ why V. answered_at_once V (asker_two w) 0 (faulted why) (map frame_two below)) q
    (λ why fuel. once_both (record J { fuel = fuel; frames = below }) w 0 (faulted why) (faulted why) below refl q a)

settled_both : (J : Joint) (w : Waiting) (below : List Layer) (o : Settled) → RestsOn J below → WaitsOn J below w
    → Both (settled first_form (one J) (asker_one w) (map frame_one below) o) (settled second_form (two J) (asker_two w) (map frame_two below) o)
settled_both J w below (found H vs) q a = answered_both (record J { heap = H; frames = below }) w (values vs) below q a q.layers
settled_both J w below (ask h vs) q a = calls_for_both J w below h vs q a
settled_both J w below (fault why) q a = answered_both (record J { frames = below }) w (faulted why) below q a q.layers
settled_both J w below cannot_arise q a = breaks_both J

unit_both : (fuel : ℕ) (J : Joint) (w : Waiting) (below : List Layer) → RestsOn J below → WaitsOn J below w
    → Both (pays_unit fuel (one J) (asker_one w) (map frame_one below)) (pays_unit fuel (two J) (asker_two w) (map frame_two below))
unit_both zero J w below q a = record { there = record J { now = ends spent }; same = refl; same_too = refl; stands = stopped J spent tt }
unit_both (suc fuel) J w below q a = once_both (record J { fuel = fuel }) w 0 no_values no_values below refl q a

-- no cell is named or opened
abbrev pub IsPlain : Ask Body → Type 0
IsPlain (makes_function body names) = ⊥
IsPlain (opens v) = ⊥
IsPlain q = Unit {0}

plain_both : (J : Joint) (q : Ask Body) (w : Waiting) (below : List Layer) → IsPlain q → RestsOn J below → WaitsOn J below w
    → Both (handle first_form q (one J) (asker_one w) (map frame_one below)) (handle second_form q (two J) (asker_two w) (map frame_two below))
plain_both J (makes_function body names) w below p q a = absurd p
plain_both J (opens v) w below p q a = absurd p
plain_both J (reads_upvalue u) w below p q a =
    cells_both J.store.pairs (cell_of (one J) w.function u) (cell_of (two J) w.function u) (breaks (one J)) (breaks (two J))
    (λ c. answered_at_once (one J) (asker_one w) 0 (one_value (nth J.store.cells c)) (map frame_one below)) (λ c. answered_at_once (two J) (asker_two w) 0 (one_value (nth J.store.cells_too c)) (map frame_two below))
    (outer J q.base w.function u) (breaks_both J)
    (λ c d h. once_both J w 0 (one_value (nth J.store.cells c)) (one_value (nth J.store.cells_too d)) below (ap one_value (q.even c d h)) q a)
plain_both J (writes_upvalue u v) w below p q a =
    cells_both J.store.pairs (cell_of (one J) w.function u) (cell_of (two J) w.function u) (breaks (one J)) (breaks (two J))
    (λ c. answered_at_once (record (one J) { cells = slice_set J.store.cells c v }) (asker_one w) 0 no_values (map frame_one below))
    (λ c. answered_at_once (record (two J) { cells = slice_set J.store.cells_too c v }) (asker_two w) 0 no_values (map frame_two below))
    (outer J q.base w.function u) (breaks_both J)
    (λ c d h.
    let T = written J.store c d v in
    let pass = write_pass J.store c d v q.base.store h in
    once_both (record J { store = T }) w 0 no_values no_values below refl
    (record {
      base = base_pass_any J.store T J.functions J.coroutines J.chain pass q.base;
      even = write_even J.store c d v q.base.store h q.even;
      layers = layers_pass J.store T IsAny (head J.chain) below pass (λ n l. tt) q.layers;
    })
    (waits_any J.store T (head J.chain, length below) w pass a))
plain_both J makes_table w below p q a =
    once_both (record J { heap = add_table J.heap }) w 0 (one_value (object a_table (length J.heap.tables))) (one_value (object a_table (length J.heap.tables))) below refl q a
plain_both J (fills_table t last vs) w below p q a =
    opt_both (filled_table J.heap t last vs) (breaks (one J)) (breaks (two J))
    (λ H. answered_at_once (record (one J) { heap = H }) (asker_one w) 0 no_values (map frame_one below)) (λ H. answered_at_once (record (two J) { heap = H }) (asker_two w) 0 no_values (map frame_two below))
    (breaks_both J) (λ H. once_both (record J { heap = H }) w 0 no_values no_values below refl q a)
plain_both J pays w below p q a = unit_both J.fuel J w below q a
plain_both J (operates op vs) w below p q a = settled_both J w below (does op vs J.heap) q a
plain_both J (calls f vs) w below p q a = calls_for_both J w below f vs q a
plain_both J (calls_last f vs) w below p q a = in_place_both J w below f vs q a
plain_both J (marks v name) w below p q a =
    let why = codes "variable '" ++ name ++ codes "' got a non-closable value" in
    either_by (is_nil (handler_in J.heap of_close v)) (is_nil (handler_in J.heap of_close v)) _ _ _ _ refl
    (once_both J w 0 (faulted why) (faulted why) below refl q a)
    (once_both J w 0 no_values no_values below refl q a)
plain_both J (closes v e) w below p q a =
    calls_for_both J w below (handler_in J.heap of_close v) (v ∷ e ∷ []) q a
plain_both J (raises why) w below p q a = raises_both (record J { frames = is_raising w ∷ below }) why (rests_with J below (is_raising w) q a)
plain_both J (leaves (returns vs)) w below p q a = now_both (record J { frames = below }) (gives_back vs) q
plain_both J (leaves (throws e)) w below p q a = now_both (record J { frames = below }) (unwinds e) q

pub handle_both : (J : Joint) (q r : Ask Body) (w : Waiting) (below : List Layer) → SameAsk J.store.pairs q r → RestsOn J below → WaitsOn J below w
    → Both (handle first_form q (one J) (asker_one w) (map frame_one below)) (handle second_form r (two J) (asker_two w) (map frame_two below))
handle_both J (makes_function body names) (makes_function other others) w below l q a =
    subst (λ z. Both (handle first_form (makes_function body names) (one J) (asker_one w) (map frame_one below)) (handle second_form (makes_function z others) (two J) (asker_two w) (map frame_two below))) l.0
    (makes_both J body names others w below q a l.1)
handle_both J (makes_function body names) r w below l q a = absurd (cc)
handle_both J (opens v) r w below l q a = absurd l
handle_both J q r w below l rest a =
    subst (λ z. Both (handle first_form q (one J) (asker_one w) (map frame_one below)) (handle second_form z (two J) (asker_two w) (map frame_two below))) l (plain_both J q w below tt rest a)
