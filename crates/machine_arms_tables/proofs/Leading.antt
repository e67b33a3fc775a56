-- From what a row comes to on the frame that is held apart, to what its instruction does to the world.
use Rattle.std.proofs.Common.{◌≡◌, ℕ, zero, suc, ◌<◌, List, [], ◌∷◌, ◌++◌, length, map, Option, Some, None, refl, ap, sym, ◌∙◌, subst, Bool, true, false}
use Rattle.std.specs.Prelude.{cond, slice_get, slice_set, IfSome, IfNone}
use Rattle.std.proofs.lemmas.List.{map-set}
use Rattle.code_core.specs.Instruction.{c_of, k_of}
use Rattle.code_core.specs.declared.instruction.Instruction.{Instruction}
use Rattle.code_core.specs.declared.opcode.Opcode.{Opcode}
use Rattle.int_core.specs.Value.{Value, Shape, shape, bind}
use Rattle.lua_heap.specs.Plain.{heap, cell}
use Rattle.lua_heap.specs.Reading.{value}
use Rattle.lua_heap.specs.declared.world.Cell.{Cell as KeptCell}
use Rattle.lua_heap.specs.declared.world.Cell.TheVariants.{Closed, Open}
use Rattle.machine_core.specs.World.{Cell, closed, open_at, read_cell}
use Rattle.machine_core.specs.FrameRows.{at_once}
use Rattle.machine_core.specs.InstructionRows.{row_of, register_or_constant}
use Rattle.machine_core.specs.Text.{Arg, arg, Text, own, quick, read_register, read_constant, read_upvalue, write_upvalue}
use Rattle.machine_focus.specs.Focus.{Held, world, cell_at, local}
use Rattle.machine_focus.proofs.Local.{local_is}
use Rattle.machine_sound.proofs.Lists.{get_map}
use Rattle.machine_view.specs.View.{Around, held, IsCode, Goes}
use Rattle.machine_view.proofs.Rows.{Comes, comes, reads, reads_constant}
use Rattle.table_core.specs.Table.{Contents}
use Rattle.table_core.specs.declared.value.CellId.{CellId}
use Rattle.table_core.specs.declared.value.Value.{Value as Kept}
use Rattle.machine_arms_tables.specs.Fields.{closed_value, upvalue_in, with_upvalue}
use Rattle.machine_arms_tables.specs.Frame.{Code, Moment, moment, IsOf, open_place, AreOpenAlike, Leads}

-- what is held apart of a moment
abbrev pub held_at : Around → Option ℕ → Moment → Held
held_at g meta m = held g (heap g.texts m.tables meta) (map (cell g.texts) m.cells) m.registers m.pc m.fuel

pub leading_to : {op : Opcode} {w : Instruction} {k : Code} {m n : Moment} → n.pc < length k.words → AreOpenAlike m.cells n.cells
    → ((g : Around) (meta : Option ℕ) → IsOf g k → Comes g.context (row_of g.context.closure.code m.pc op w) [] (held_at g meta m) (Some (held_at g meta n)))
    → Leads op w k m n
leading_to {op = op} {w = w} {m = m} {n = n} l a f = record {
  inside = l;
  opened = a;
  runs = λ g meta o s. local_is g.context s at_once (row_of g.context.closure.code m.pc op w) [] (held_at g meta m) (held_at g meta n) ((f g meta o).is);
}

-- where the cells stay as they are
pub leading : {op : Opcode} {w : Instruction} {k : Code} {ts ts' : List Contents} {cs : List KeptCell} {r s : List Kept} {pc to fuel left : ℕ} → to < length k.words
    → ((g : Around) (meta : Option ℕ) → IsOf g k → Comes g.context (row_of g.context.closure.code pc op w) [] (held_at g meta (moment ts cs r pc fuel)) (Some (held_at g meta (moment ts' cs s to left))))
    → Leads op w k (moment ts cs r pc fuel) (moment ts' cs s to left)
leading l f = leading_to l refl f

-- what an arm says, said of the instruction
pub if_some : {A : Type 0} {P Q : A → Type 0} (o : Option A) → ((x : A) → P x → Q x) → IfSome o P → IfSome o Q
if_some None f h = tt
if_some (Some x) f h = f x h

pub if_none : {A : Type 0} {P Q : Type 0} (o : Option A) → (P → Q) → IfNone o P → IfNone o Q
if_none None f h = f h
if_none (Some x) f h = tt

pub by_opcode : {op arm : Opcode} {w : Instruction} {k : Code} {m n : Moment} → op ≡ arm → Leads arm w k m n → Leads op w k m n
by_opcode {w = w} {k = k} {m = m} {n = n} e d = subst (λ op. Leads op w k m n) (sym e) d

-- what is as it was, and a budget of which nothing was paid
pub as_before : {op : Opcode} {w : Instruction} {k : Code} {ts ts' : List Contents} {cs cs' : List KeptCell} {r r' s : List Kept} {pc to fuel left : ℕ} → r' ≡ r → left ≡ fuel
    → ((fuel : ℕ) → Leads op w k (moment ts cs r' pc fuel) (moment ts' cs' s to fuel)) → Leads op w k (moment ts cs r pc fuel) (moment ts' cs' s to left)
as_before {op} {w} {k} {ts} {ts'} {cs} {cs'} {r} {r'} {s} {pc} {to} {fuel} {left} e f goes =
    subst (λ r. Leads op w k (moment ts cs r pc fuel) (moment ts' cs' s to left)) e
    (subst (λ fuel. Leads op w k (moment ts cs r' pc fuel) (moment ts' cs' s to left)) f (goes left))

-- a place in a list, by another name of its number
pub got : {A : Type 0} (xs : List A) {m n : ℕ} {x : A} → m ≡ n → slice_get xs m ≡ Some x → slice_get xs n ≡ Some x
got xs e f = ap (slice_get xs) (sym e) ∙ f

-- what is found at a place, by another name of its number
pub named_so : {A : Type 0} (f : ℕ → Option A) {m n : ℕ} {x : A} → m ≡ n → Some x ≡ f m → f n ≡ Some x
named_so f e g = ap f (sym e) ∙ sym g

pub below : {m n k : ℕ} → m ≡ n → n < k → m < k
below {k = k} e l = subst (λ n. n < k) (sym e) l

-- an instruction on registers alone leaves the tables and the cells as they are
pub goes_leads : {op : Opcode} {w : Instruction} {r s : List Kept} {pc fuel to left : ℕ} (k : Code) (ts : List Contents) (cs : List KeptCell) → Goes op w k.words k.constants r pc fuel s to left
    → Leads op w k (moment ts cs r pc fuel) (moment ts cs s to left)
goes_leads k ts cs q = leading ((q.does (heap k.texts ts None) []).inside) (λ g meta o. comes ((q.does (heap g.texts ts meta) (map (cell g.texts) cs)).leads g o.code))

-- the operand C: a register, or a constant with k
module _ (g : Around) (meta : Option ℕ) (m : Moment) where
  pub reads_either : (k : ℕ → Shape → Text) {env : List Value} {o : Option Held} {ws : List Instruction} {ks : List Kept} (w : Instruction) (v : Kept) → IsCode g ws ks
      → cond (k_of w) (slice_get ks (c_of w)) (slice_get m.registers (c_of w)) ≡ Some v
      → Comes g.context (k (length env) (shape (value g.texts v))) (env ++ value g.texts v ∷ []) (held_at g meta m) o
      → Comes g.context (register_or_constant w k) env (held_at g meta m) o
  reads_either k {env = env} {o = o} {ks = ks} w v c e q = by (k_of w) refl e
    where
      by : (b : Bool) → k_of w ≡ b → cond b (slice_get ks (c_of w)) (slice_get m.registers (c_of w)) ≡ Some v → Comes g.context (register_or_constant w k) env (held_at g meta m) o
      by true b e =
          subst (λ b. Comes g.context (cond b (own (read_constant (c_of w)) k) (own (read_register (c_of w)) k)) env (held_at g meta m) o) (sym b)
          (reads_constant g (heap g.texts m.tables meta) (map (cell g.texts) m.cells) m.registers m.pc m.fuel (c_of w) v c e q)
      by false b e =
          subst (λ b. Comes g.context (cond b (own (read_constant (c_of w)) k) (own (read_register (c_of w)) k)) env (held_at g meta m) o) (sym b)
          (reads g (heap g.texts m.tables meta) (map (cell g.texts) m.cells) m.registers m.pc m.fuel (c_of w) v e q)

-- an upvalue whose cell is closed
record ClosedAt (upvalues : List CellId) (cells : List KeptCell) (u : ℕ) (v : Kept) : Type 0 where
  pub id : CellId
  pub named : slice_get upvalues u ≡ Some id
  pub holds : slice_get cells id.0 ≡ Some (Closed v)

is_closed : (c : KeptCell) (v : Kept) → closed_value c ≡ Some v → c ≡ Closed v
is_closed (Closed w) v e = cc
is_closed (Open co f r) v e = absurd (cc)

closed_there : (upvalues : List CellId) (cells : List KeptCell) (u : ℕ) (v : Kept) → upvalue_in upvalues cells u ≡ Some v → ClosedAt upvalues cells u v
closed_there upvalues cells u v e = named (slice_get upvalues u) refl e
  where
    holding : (id : CellId) → slice_get upvalues u ≡ Some id → (o : Option KeptCell) → slice_get cells id.0 ≡ o → bind o closed_value ≡ Some v → ClosedAt upvalues cells u v
    holding id n None f e = absurd (cc)
    holding id n (Some c) f e = record { id = id; named = n; holds = f ∙ ap (λ c. Some c) (is_closed c v e) }

    named : (o : Option CellId) → slice_get upvalues u ≡ o → bind o (λ id. bind (slice_get cells id.0) closed_value) ≡ Some v → ClosedAt upvalues cells u v
    named None n e = absurd (cc)
    named (Some id) n e = holding id n (slice_get cells id.0) refl e

-- an upvalue that is given a value
record PutAt (upvalues : List CellId) (cells : List KeptCell) (u : ℕ) (v : Kept) (cells' : List KeptCell) : Type 0 where
  pub was : Kept
  pub there : ClosedAt upvalues cells u was
  pub becomes : cells' ≡ slice_set cells there.id.0 (Closed v)

put_there : (upvalues : List CellId) (cells : List KeptCell) (u : ℕ) (v : Kept) (cells' : List KeptCell) → with_upvalue upvalues cells u v ≡ Some cells' → PutAt upvalues cells u v cells'
put_there upvalues cells u v cells' e = named (slice_get upvalues u) refl e
  where
    holding : (id : CellId) → slice_get upvalues u ≡ Some id → (c : KeptCell) → slice_get cells id.0 ≡ Some c → bind (closed_value c) (λ _. Some (slice_set cells id.0 (Closed v))) ≡ Some cells' → PutAt upvalues cells u v cells'
    holding id n (Closed w) f e = record { was = w; there = record { id = id; named = n; holds = f }; becomes = cc }
    holding id n (Open co g r) f e = absurd (cc)

    cell_there : (id : CellId) → slice_get upvalues u ≡ Some id → (o : Option KeptCell) → slice_get cells id.0 ≡ o → bind o (λ c. bind (closed_value c) (λ _. Some (slice_set cells id.0 (Closed v)))) ≡ Some cells' → PutAt upvalues cells u v cells'
    cell_there id n None f e = absurd (cc)
    cell_there id n (Some c) f e = holding id n c f e

    named : (o : Option CellId) → slice_get upvalues u ≡ o → bind o (λ id. bind (slice_get cells id.0) (λ c. bind (closed_value c) (λ _. Some (slice_set cells id.0 (Closed v))))) ≡ Some cells' → PutAt upvalues cells u v cells'
    named None n e = absurd (cc)
    named (Some id) n e = cell_there id n (slice_get cells id.0) refl e

-- a closed cell in place of a closed one
alike_there : (cells : List KeptCell) (i : ℕ) (w v : Kept) → slice_get cells i ≡ Some (Closed w) → map open_place cells ≡ map open_place (slice_set cells i (Closed v))
alike_there [] i w v e = refl
alike_there (c ∷ cells) zero w v e =
    let f : c ≡ Closed w = cc in
    ap (λ c. open_place c ∷ map open_place cells) f
alike_there (c ∷ cells) (suc i) w v e = ap (λ l. open_place c ∷ l) (alike_there cells i w v e)

module _ (k : Code) (m : Moment) where
  pub open_alike : (u : ℕ) (v : Kept) (cells : List KeptCell) → with_upvalue k.upvalues m.cells u v ≡ Some cells → AreOpenAlike m.cells cells
  open_alike u v cells e =
      let p = put_there k.upvalues m.cells u v cells e in
      alike_there m.cells p.there.id.0 p.was v p.there.holds ∙ ap (map open_place) (sym p.becomes)

module _ (g : Around) (meta : Option ℕ) (k : Code) (o : IsOf g k) (m : Moment) where
  cell_is : (u : ℕ) (v : Kept) (x : ClosedAt k.upvalues m.cells u v) → cell_at g.context (held_at g meta m) u ≡ Some (x.id.0, closed (value g.texts v))
  cell_is u v x =
      ap (λ ns. bind {A = ℕ} {B = ℕ × Cell} (slice_get ns u) (λ n. bind (slice_get (map (cell g.texts) m.cells) n) (λ c. Some (n, c)))) o.upvalues_are
      ∙ ap (λ o. bind {A = ℕ} {B = ℕ × Cell} o (λ n. bind (slice_get (map (cell g.texts) m.cells) n) (λ c. Some (n, c)))) (get_map (λ (c : CellId). c.0) k.upvalues u x.id x.named)
      ∙ ap (λ o. bind {A = Cell} {B = ℕ × Cell} o (λ c. Some (x.id.0, c))) (get_map (cell g.texts) m.cells x.id.0 (Closed v) x.holds)

  pub reads_upvalue : {t : ℕ → Text} {env : List Value} {h : Option Held} (u : ℕ) (v : Kept) → upvalue_in k.upvalues m.cells u ≡ Some v
      → Comes g.context (t (length env)) (env ++ value g.texts v ∷ []) (held_at g meta m) h
      → Comes g.context (quick (read_upvalue u) t) env (held_at g meta m) h
  reads_upvalue {t = t} {env = env} {h = h} u v e q = comes (
      ap (λ o. bind {A = ℕ × Cell} {B = Held} o (λ x. bind (read_cell (world g.context (held_at g meta m)) x.1) (λ v. local g.context (t (length env)) (env ++ v ∷ []) (held_at g meta m)))) (cell_is u v (closed_there k.upvalues m.cells u v e))
      ∙ q.is)

  pub writes_upvalue : {t : ℕ → Text} {env : List Value} {h : Option Held} {x : Arg} (u : ℕ) (v : Kept) (cells : List KeptCell) → with_upvalue k.upvalues m.cells u v ≡ Some cells → arg env x ≡ value g.texts v
      → Comes g.context (t (length env)) (env ++ []) (held_at g meta (record m { cells = cells })) h
      → Comes g.context (quick (write_upvalue u x) t) env (held_at g meta m) h
  writes_upvalue {t = t} {env = env} {h = h} {x = x} u v cells e a q =
      let p = put_there k.upvalues m.cells u v cells e in
      let H = heap g.texts m.tables meta in
      let after = λ (cs : List Cell). local g.context (t (length env)) (env ++ []) (held g H cs m.registers m.pc m.fuel) in
      comes (
      ap (λ o. bind {A = ℕ × Cell} {B = Held} o (λ y. elim y.1 as (λ _. Option Held) [
        | closed _ ↦ after (slice_set (map (cell g.texts) m.cells) y.0 (closed (arg env x)))
        | open_at co f r ↦ None
      ])) (cell_is u p.was p.there)
      ∙ ap (λ v. after (slice_set (map (cell g.texts) m.cells) p.there.id.0 (closed v))) a
      ∙ ap after (sym (map-set (cell g.texts) m.cells p.there.id.0 (Closed v)) ∙ ap (map (cell g.texts)) (sym p.becomes))
      ∙ q.is)
