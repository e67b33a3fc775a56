-- What is written fits: frames fit the instructions at which they wait, and open cells name registers that are there, each another one.
use Rattle.std.proofs.Common.{arith, ℕ, suc, ◌<◌, ◌≡◌, List, [], ◌∷◌, Option, Some, None, refl, subst, sym, ap, ◌∙◌, length, map, Bool, true, false, cond}
use Rattle.std.specs.Prelude.{slice_get, flat_map, nat_eq, nat_lt, not, ◌&&◌, ◌||◌}
use Rattle.std.specs.List.{list_all, list_any}
use Rattle.std.proofs.lemmas.List.{length-map}
use Rattle.std.proofs.lemmas.Bool.{and_parts}
use Rattle.code_core.specs.declared.instruction.Instruction.{Instruction}
use Rattle.code_core.specs.declared.opcode.Opcode.{Opcode}
use Rattle.code_core.specs.Check.{at}
use Rattle.code_core.specs.Prototype.{Prototype}
use Rattle.int_core.specs.Heap.{Table}
use Rattle.int_core.specs.Value.{a_table, a_function, a_coroutine, Value, object, bind}
use Rattle.machine_core.specs.World.{Function, Cell, closed, open_at, Wait, running, LuaFrame, Frame, lua, Coroutine, fresh, suspended, in_progress, normal, dead, failed, World, frames_of, lua_frame}
use Rattle.machine_sound.specs.Sound.{Each, sizes, FrameOk, LuaOk, waits_at, waiting_size, kept_below, LuaWaits, FrameWaits, CoroutineOk, registers_in, registers_of, CellOk, Solid}
use Rattle.machine_sound.proofs.Lists.{get_map}
use Rattle.image_core.specs.Visit.{IsMet, greatest_count}
use Rattle.image_core.specs.Image.{PermKey, Perm, Item, numbered, LuaFrameItem, Record, closed_record, open_record, suspended_record}
use Rattle.image_core.specs.Records.{Part, an_object, a_cell, same_part, Field, of_value, of_coroutine, frame_fields, coroutine_fields, present, cell_fields, if_there, fields, value_parts, unless_named, field_parts, parts, is_reached, parts_in_order, Naming, naming, or_item, item, wait_item, lua_frame_item, frame_item, record_of_table, record_of_function, record_of_coroutine, record_of_cell, or_none, record_of}
use Rattle.image_core.specs.Loading.{kind_in}
use Rattle.image_core.proofs.Lists.{Every, every_at, every_front, every_flat, none_some, get_met, order_once}
use Rattle.image_core.proofs.Parts.{part_tells, part_self}
use Rattle.image_core.proofs.Visits.{order_closed}
use Rattle.image_bytes.specs.Bytes.{Reader}
use Rattle.image_load.specs.Loads.{IsWritten}
use Rattle.image_sound.specs.Fitting.{code_in, code_of_item, fits_instruction, fits_code, lua_fits, frame_fits, frames_in, lua_frame_in, register_there, record_fits, is_open_record, opened_again, opened_once, all_fit}
use Rattle.images_stand.specs.Standing.{ArePermanents, Knows, KnowsCode, name}
use Rattle.images_stand.proofs.Kept.{Named, by_environment, by_key, named_so, HasRecord, has_record, parts_are}
use Rattle.list_laws.proofs.Tests.{both_true}
use Rattle.machine_sound.proofs.Values.{lt_true}
use Rattle.image_same.proofs.Order.{same_is}
use Rattle.image_bytes.proofs.Back.{equal_true}
use Rattle.image_saved.proofs.Names.{some_so}

and_four : (a b c d : Bool) → a ≡ true → b ≡ true → c ≡ true → d ≡ true → (a && (b && (c && d))) ≡ true
and_four a b c d e f g h = rw (e, f, g, h) refl

all_below : (rs : List ℕ) (n : ℕ) → Each (λ r. r < n) rs → list_all (λ r. nat_lt r n) rs ≡ true
all_below [] n h = refl
all_below (r ∷ rs) n h = both_true (nat_lt r n) (list_all (λ r. nat_lt r n) rs) (lt_true r n (h 0 r refl)) (all_below rs n (λ i x e. h (suc i) x e))

-- which records are open cells
open_is : (k frame register : ℕ) (r : Record) → is_open_record k frame register r ≡ true → r ≡ open_record k frame register
open_is k frame register (open_record c f g) h =
    let a = and_parts (nat_eq k c) (nat_eq frame f && nat_eq register g) h in
    let b = and_parts (nat_eq frame f) (nat_eq register g) a.1 in
    sym (ap (λ x. open_record x frame register) (equal_true k c a.0) ∙ (ap (λ x. open_record c x register) (equal_true frame f b.0) ∙ ap (λ x. open_record c f x) (equal_true register g b.1)))
open_is k frame register _ h = absurd (cc)

module _ (W : World) (perms : List Perm) (roots : List Value) (R : Reader) (primitives : ℕ) (are : ArePermanents perms) (knows : Knows W.prelude_environment perms R)
    (few : slice_get (parts_in_order W (name W perms roots) roots) greatest_count ≡ None)
    (written : (o : Part) → IsMet same_part (parts_in_order W (name W perms roots) roots) o → IsWritten W (name W perms roots) roots o) (solid : Solid primitives W) (code_named : PermKey → Option Prototype)
    (codes : KnowsCode W perms code_named)
  where
    abbrev Nm : Value → Option Item
    Nm = name W perms roots

    abbrev Order : List Part
    Order = parts_in_order W Nm roots

    abbrev N : Naming
    N = naming W Nm roots

    abbrev Rs : List Record
    Rs = map (record_of N W) Order

    abbrev Met : Part → Type 0
    Met o = IsMet same_part Order o

    abbrev inside : ℕ → Bool
    inside = is_reached W Nm roots

    abbrev FieldMet : Field → Type 0
    FieldMet f = Every Met (field_parts Nm f)

    place_of : (o : Part) → Met o → HasRecord W perms roots R primitives are knows few written o
    place_of o m = has_record W perms roots R primitives are knows few written o m

    fields_met : (o : Part) → Met o → Every FieldMet (fields W inside o)
    fields_met o m =
        let h = place_of o m in
        every_flat Met (field_parts Nm) (fields W inside o)
        (every_at Met (parts W Nm inside o) (λ j q g. order_closed same_part part_self (parts W Nm inside) greatest_count (flat_map (λ v. field_parts Nm (of_value v)) roots) few h.at o q j h.there g))

    record_at : (o : Part) → Met o → slice_get Rs (N.number o) ≡ Some (record_of N W o)
    record_at o m = let h = place_of o m in ap (slice_get Rs) h.number ∙ get_map (record_of N W) Order h.at o h.there

    -- frames

    code_is : (n : ℕ) (f : Function) → slice_get W.functions n ≡ Some f → FieldMet (of_value (object a_function n)) → code_of_item code_named Rs (item N (object a_function n)) ≡ Some f.code
    code_is n f there m = by (Nm (object a_function n)) refl m
      where
        by_name : (i : Item) → Nm (object a_function n) ≡ Some i → Named W.prelude_environment perms (object a_function n) i → code_of_item code_named Rs i ≡ Some f.code
        by_name i e (by_environment h) = absurd (cc)
        by_name i e (by_key key h) = codes.codes n f key e there

        by : (o : Option Item) → Nm (object a_function n) ≡ o → Every Met (unless_named o (value_parts (object a_function n))) → code_of_item code_named Rs (or_item o (numbered (N.number (an_object a_function n)))) ≡ Some f.code
        by None e m = ap (λ o. bind o code_in) (record_at (an_object a_function n) m.0) ∙ ap (λ o. code_in (or_none (record_of_function N) o)) there
        by (Some i) e m = by_name i e (named_so W.prelude_environment perms (object a_function n) i e)

    waits_item : (w : Wait Value) (op : Opcode) (i : Instruction) → waits_at (wait_item N w) op i ≡ waits_at w op i
    waits_item running op i = refl
    waits_item _ op i = refl

    size_item : (w : Wait Value) (i : Instruction) (stack : ℕ) → waiting_size (wait_item N w) i stack ≡ waiting_size w i stack
    size_item running i stack = refl
    size_item _ i stack = refl

    kept_item : (w : Wait Value) (i : Instruction) (stack : ℕ) → kept_below (wait_item N w) i stack ≡ kept_below w i stack
    kept_item running i stack = refl
    kept_item _ i stack = refl

    lua_fit : (f : LuaFrame) → LuaOk (sizes primitives W) f → LuaWaits (sizes primitives W) f → FieldMet (of_value (object a_function f.function)) → lua_fits code_named Rs (lua_frame_item N f) ≡ true
    lua_fit f h w m =
        let same : h.function ≡ w.function = some_so (sym h.there ∙ w.there) in
        let stack : ℕ = w.function.code.own.stack in
        ap (λ o. elim o [ None ↦ false | Some p ↦ fits_code (lua_frame_item N f) p ]) (code_is f.function w.function w.there m)
        ∙ (ap (λ o. elim o [ None ↦ false | Some i ↦ fits_instruction w.function.code (lua_frame_item N f) i ]) w.at_pc
        ∙ (ap (λ o. elim o [
          | None ↦ false
          | Some op ↦ waits_at (wait_item N f.wait) op w.instruction && (nat_eq (length (map (item N) f.own.registers)) (waiting_size (wait_item N f.wait) w.instruction stack)
              && (list_all (λ r. nat_lt r stack) f.own.pending && list_all (λ r. nat_lt r (kept_below (wait_item N f.wait) w.instruction stack)) f.own.pending))
        ]) w.is_opcode
        ∙ and_four (waits_at (wait_item N f.wait) w.opcode w.instruction) (nat_eq (length (map (item N) f.own.registers)) (waiting_size (wait_item N f.wait) w.instruction stack)) (list_all (λ r. nat_lt r stack) f.own.pending)
        (list_all (λ r. nat_lt r (kept_below (wait_item N f.wait) w.instruction stack)) f.own.pending)
        (waits_item f.wait w.opcode w.instruction ∙ w.fits) (same_is (length (map (item N) f.own.registers)) (waiting_size (wait_item N f.wait) w.instruction stack) (length-map f.own.registers (item N) ∙ (w.size ∙ sym (size_item f.wait w.instruction stack))))
        (all_below f.own.pending stack (subst (λ (g : Function). Each (λ r. r < g.code.own.stack) f.own.pending) same h.pending))
        (all_below f.own.pending (kept_below (wait_item N f.wait) w.instruction stack) (subst (λ n. Each (λ r. r < n) f.own.pending) (sym (kept_item f.wait w.instruction stack)) w.kept))))

    frame_fit : (f : Frame) → FrameOk (sizes primitives W) f → FrameWaits (sizes primitives W) f → Every FieldMet (frame_fields f) → frame_fits code_named Rs (frame_item N f) ≡ true
    frame_fit (lua f) h w m = lua_fit f h w m.0
    frame_fit _ h w m = refl

    frames_fit : (fs : List Frame) → Each (FrameOk (sizes primitives W)) fs → Each (FrameWaits (sizes primitives W)) fs → Every FieldMet (flat_map frame_fields fs) → list_all (frame_fits code_named Rs) (map (frame_item N) fs) ≡ true
    frames_fit [] h w m = refl
    frames_fit (f ∷ fs) h w m =
        let g = every_front FieldMet (frame_fields f) (flat_map frame_fields fs) m in
        both_true (frame_fits code_named Rs (frame_item N f)) (list_all (frame_fits code_named Rs) (map (frame_item N) fs)) (frame_fit f (h 0 f refl) (w 0 f refl) g.0)
        (frames_fit fs (λ i x e. h (suc i) x e) (λ i x e. w (suc i) x e) g.1)

    coroutine_fit : (c : Coroutine) → CoroutineOk (sizes primitives W) c → Every FieldMet (coroutine_fields c) → record_fits code_named Rs (record_of_coroutine N c) ≡ true
    coroutine_fit (suspended fs) h m = frames_fit fs h.right.each h.waits m
    coroutine_fit _ h m = refl

    -- open cells

    abbrev if_there_so : ℕ → Option LuaFrameItem → Bool
    if_there_so register o = elim o [ None ↦ false | Some f ↦ nat_lt register (length f.registers) ]

    lua_there : (n : ℕ) (frames : List Frame) (frame register : ℕ) (f : LuaFrame) → slice_get Rs n ≡ Some (suspended_record (map (frame_item N) frames)) → slice_get frames frame ≡ Some (lua f) → register < length f.own.registers
        → register_there Rs n frame register ≡ true
    lua_there n frames frame register f e g l =
        ap (λ o. if_there_so register (bind (bind (bind o frames_in) (λ fs. slice_get fs frame)) lua_frame_in)) e
        ∙ (ap (λ o. if_there_so register (bind o lua_frame_in)) (get_map (frame_item N) frames frame (lua f) g)
        ∙ lt_true register (length (map (item N) f.own.registers)) (let c = length-map f.own.registers (item N) in omega (arith, c, l)))

    frames_there : (n : ℕ) (frames : List Frame) (frame register : ℕ) → slice_get Rs n ≡ Some (suspended_record (map (frame_item N) frames)) → register < registers_in frames frame → register_there Rs n frame register ≡ true
    frames_there n frames frame register e l = by (slice_get frames frame) refl l
      where
        by : (o : Option Frame) → slice_get frames frame ≡ o → register < elim (bind o lua_frame) [ None ↦ 0 | Some f ↦ length f.own.registers ] → register_there Rs n frame register ≡ true
        by (Some (lua f)) g l = lua_there n frames frame register f e g l
        by _ g l = absurd (omega (arith, l))

    coroutine_there : (c : Coroutine) (n frame register : ℕ) → kind_in (record_of_coroutine N c) ≡ Some a_coroutine → slice_get Rs n ≡ Some (record_of_coroutine N c)
        → register < elim (frames_of c) [ None ↦ 0 | Some frames ↦ registers_in frames frame ] → register_there Rs n frame register ≡ true
    coroutine_there (fresh body) n frame register k e l = absurd (omega (arith, l))
    coroutine_there (suspended frames) n frame register k e l = frames_there n frames frame register e l
    coroutine_there (in_progress frames) n frame register k e l = absurd (none_some a_coroutine k)
    coroutine_there (normal frames) n frame register k e l = absurd (none_some a_coroutine k)
    coroutine_there dead n frame register k e l = absurd (omega (arith, l))
    coroutine_there (failed v vs) n frame register k e l = absurd (omega (arith, l))

    open_there : (co frame register : ℕ) → Met (an_object a_coroutine co) → register < registers_of W.coroutines co frame → register_there Rs (N.number (an_object a_coroutine co)) frame register ≡ true
    open_there co frame register m l = by (slice_get W.coroutines co) (written (an_object a_coroutine co) m) (record_at (an_object a_coroutine co) m) l
      where
        by : (o : Option Coroutine) → kind_in (or_none (record_of_coroutine N) o) ≡ Some a_coroutine → slice_get Rs (N.number (an_object a_coroutine co)) ≡ Some (or_none (record_of_coroutine N) o)
            → register < elim (bind o frames_of) [ None ↦ 0 | Some frames ↦ registers_in frames frame ] → register_there Rs (N.number (an_object a_coroutine co)) frame register ≡ true
        by None k e l = absurd (none_some a_coroutine k)
        by (Some c) k e l = coroutine_there c (N.number (an_object a_coroutine co)) frame register k e l

    cell_fit : (c : Cell) → CellOk (sizes primitives W) W.coroutines c → Every FieldMet (cell_fields W inside c) → record_fits code_named Rs (record_of_cell N W c) ≡ true
    cell_fit (closed v) h m = refl
    cell_fit (open_at co frame register) h m = by (inside co) m
      where
        by : (b : Bool) → Every FieldMet (cond b (of_coroutine co ∷ []) (of_value (present W (open_at co frame register)) ∷ []))
            → record_fits code_named Rs (cond b (open_record (N.number (an_object a_coroutine co)) frame register) (closed_record (item N (present W (open_at co frame register))))) ≡ true
        by true m = open_there co frame register m.0.0 h
        by false m = refl

    record_fit : (o : Part) → Met o → record_fits code_named Rs (record_of N W o) ≡ true
    record_fit (an_object a_table n) m = by (slice_get W.heap.tables n)
      where
        by : (o : Option Table) → record_fits code_named Rs (or_none (record_of_table N) o) ≡ true
        by None = refl
        by (Some t) = refl
    record_fit (an_object a_function n) m = by (slice_get W.functions n)
      where
        by : (o : Option Function) → record_fits code_named Rs (or_none (record_of_function N) o) ≡ true
        by None = refl
        by (Some f) = refl
    record_fit (an_object a_coroutine n) m = by (slice_get W.coroutines n) refl (fields_met (an_object a_coroutine n) m)
      where
        by : (o : Option Coroutine) → slice_get W.coroutines n ≡ o → Every FieldMet (if_there coroutine_fields o) → record_fits code_named Rs (or_none (record_of_coroutine N) o) ≡ true
        by None e k = refl
        by (Some c) e k = coroutine_fit c (solid.coroutines n c e) k
    record_fit (a_cell n) m = by (slice_get W.cells n) refl (fields_met (a_cell n) m)
      where
        by : (o : Option Cell) → slice_get W.cells n ≡ o → Every FieldMet (if_there (cell_fields W inside) o) → record_fits code_named Rs (or_none (record_of_cell N W) o) ≡ true
        by None e k = refl
        by (Some c) e k = cell_fit c (solid.cells n c e) k

    records_fit : (ps : List Part) → Every Met ps → list_all (record_fits code_named Rs) (map (record_of N W) ps) ≡ true
    records_fit [] m = refl
    records_fit (o ∷ ps) m = both_true (record_fits code_named Rs (record_of N W o)) (list_all (record_fits code_named Rs) (map (record_of N W) ps)) (record_fit o m.0) (records_fit ps m.1)

    -- each register is open once

    record OpensAs (o : Part) (k frame register : ℕ) : Type 0 where
      cell : ℕ
      coroutine : ℕ
      part : o ≡ a_cell cell
      there : slice_get W.cells cell ≡ Some (open_at coroutine frame register)
      number : N.number (an_object a_coroutine coroutine) ≡ k
      met : Met (an_object a_coroutine coroutine)

    open_cell : (n : ℕ) (c : Cell) (k frame register : ℕ) → slice_get W.cells n ≡ Some c → Every FieldMet (cell_fields W inside c) → record_of_cell N W c ≡ open_record k frame register → OpensAs (a_cell n) k frame register
    open_cell n (closed v) k frame register g m e = absurd (cc)
    open_cell n (open_at co f r) k frame register g m e = by (inside co) m e
      where
        numbers : open_record (N.number (an_object a_coroutine co)) f r ≡ open_record k frame register → (N.number (an_object a_coroutine co) ≡ k) × (f ≡ frame) × (r ≡ register)
        numbers e = (cc, cc, cc)

        by : (b : Bool) → Every FieldMet (cond b (of_coroutine co ∷ []) (of_value (present W (open_at co f r)) ∷ []))
            → cond b (open_record (N.number (an_object a_coroutine co)) f r) (closed_record (item N (present W (open_at co f r)))) ≡ open_record k frame register → OpensAs (a_cell n) k frame register
        by true m e =
            let q = numbers e in
            record { cell = n; coroutine = co; part = refl; there = g ∙ (ap (λ x. Some (open_at co x r)) q.1 ∙ ap (λ x. Some (open_at co frame x)) q.2); number = q.0; met = m.0.0 }
        by false m e = absurd (cc)

    no_coroutine_opens : (c : Coroutine) (k frame register : ℕ) → record_of_coroutine N c ≡ open_record k frame register → ⊥
    no_coroutine_opens (fresh body) k frame register e = cc
    no_coroutine_opens _ k frame register e = cc

    opens_as : (o : Part) → Met o → (k frame register : ℕ) → record_of N W o ≡ open_record k frame register → OpensAs o k frame register
    opens_as (an_object a_table n) m k frame register e = absurd (by (slice_get W.heap.tables n) e)
      where
        by : (o : Option Table) → or_none (record_of_table N) o ≡ open_record k frame register → ⊥
        by None e = cc
        by (Some t) e = cc
    opens_as (an_object a_function n) m k frame register e = absurd (by (slice_get W.functions n) e)
      where
        by : (o : Option Function) → or_none (record_of_function N) o ≡ open_record k frame register → ⊥
        by None e = cc
        by (Some f) e = cc
    opens_as (an_object a_coroutine n) m k frame register e = absurd (by (slice_get W.coroutines n) e)
      where
        by : (o : Option Coroutine) → or_none (record_of_coroutine N) o ≡ open_record k frame register → ⊥
        by None e = cc
        by (Some c) e = no_coroutine_opens c k frame register e
    opens_as (a_cell n) m k frame register e = by (slice_get W.cells n) refl (fields_met (a_cell n) m) e
      where
        by : (o : Option Cell) → slice_get W.cells n ≡ o → Every FieldMet (if_there (cell_fields W inside) o) → or_none (record_of_cell N W) o ≡ open_record k frame register → OpensAs (a_cell n) k frame register
        by None g f e = absurd (cc)
        by (Some c) g f e = open_cell n c k frame register g f e

    same_cell : (o q : Part) (k frame register : ℕ) → OpensAs o k frame register → OpensAs q k frame register → o ≡ q
    same_cell o q k frame register a b =
        let parts : an_object a_coroutine a.coroutine ≡ an_object a_coroutine b.coroutine
        = parts_are W perms roots R primitives are knows few written (an_object a_coroutine a.coroutine) (an_object a_coroutine b.coroutine) a.met b.met (a.number ∙ sym b.number)
        in
        let one : a.cell ≡ b.cell = solid.one_each a.cell b.cell a.coroutine frame register a.there (subst (λ co. slice_get W.cells b.cell ≡ Some (open_at co frame register)) (sym (number_of parts)) b.there) in
        a.part ∙ (ap a_cell one ∙ sym b.part)
      where
        number_of : an_object a_coroutine a.coroutine ≡ an_object a_coroutine b.coroutine → a.coroutine ≡ b.coroutine
        number_of e = cc

    none_open : (o : Part) → Met o → (k frame register : ℕ) → record_of N W o ≡ open_record k frame register → (ps : List Part) → Every Met ps → ((j : ℕ) → slice_get ps j ≡ Some o → ⊥) → list_any (is_open_record k frame register) (map (record_of N W) ps) ≡ false
    none_open o m k frame register e [] ms apart = refl
    none_open o m k frame register e (q ∷ ps) ms apart = by (is_open_record k frame register (record_of N W q)) refl (none_open o m k frame register e ps ms.1 (λ j g. apart (suc j) g))
      where
        by : (b : Bool) → is_open_record k frame register (record_of N W q) ≡ b → list_any (is_open_record k frame register) (map (record_of N W) ps) ≡ false
            → (is_open_record k frame register (record_of N W q) || list_any (is_open_record k frame register) (map (record_of N W) ps)) ≡ false
        by false h again = rw (h, again) refl
        by true h again =
            let same = same_cell o q k frame register (opens_as o m k frame register e) (opens_as q ms.0 k frame register (open_is k frame register (record_of N W q) h)) in
            absurd (apart 0 (ap Some (sym same)))

    not_again : (o : Part) → Met o → (ps : List Part) → Every Met ps → ((j : ℕ) → slice_get ps j ≡ Some o → ⊥) → opened_again (record_of N W o) (map (record_of N W) ps) ≡ false
    not_again o m ps ms apart = by (record_of N W o) refl
      where
        by : (r : Record) → record_of N W o ≡ r → opened_again r (map (record_of N W) ps) ≡ false
        by (open_record k frame register) e = none_open o m k frame register e ps ms apart
        by _ e = refl

    abbrev Once : List Part → Type 0
    Once ps = (i j : ℕ) (o : Part) → slice_get ps i ≡ Some o → slice_get ps j ≡ Some o → i ≡ j

    all_once : (ps : List Part) → Every Met ps → Once ps → opened_once (map (record_of N W) ps) ≡ true
    all_once [] m once = refl
    all_once (o ∷ ps) m once =
        both_true (not (opened_again (record_of N W o) (map (record_of N W) ps))) (opened_once (map (record_of N W) ps)) (ap not (not_again o m.0 ps m.1 (λ j g. not_first j (once 0 (suc j) o refl g))))
        (all_once ps m.1 (λ i j q a b. less (once (suc i) (suc j) q a b)))
      where
        not_first : (j : ℕ) → 0 ≡ suc j → ⊥
        not_first j e = cc

        less : {i j : ℕ} → suc i ≡ suc j → i ≡ j
        less e = cc

    all_met : Every Met Order
    all_met = every_at Met Order (λ j o e. get_met same_part part_tells part_self Order o j e)

    pub written_fits : all_fit code_named Rs ≡ true
    written_fits =
        both_true (list_all (record_fits code_named Rs) Rs) (opened_once Rs) (records_fit Order all_met)
        (all_once Order all_met (order_once same_part part_tells part_self (parts W Nm inside) greatest_count (flat_map (λ v. field_parts Nm (of_value v)) roots)))
