-- Rows that put a value into a register.
use Rattle.std.proofs.Common.{◌≡◌, ℕ, zero, suc, ◌+◌, ◌<◌, ◌≤◌, List, [], length, map, Option, Some, None, refl, ap, sym, ◌∙◌, subst, arith, Bool}
use Rattle.code_core.specs.declared.instruction.Instruction.{Instruction}
use Rattle.code_core.specs.declared.opcode.Opcode.{Opcode}
use Rattle.lua_heap.specs.Reading.{value}
use Rattle.machine_core.specs.InstructionRows.{row_of}
use Rattle.machine_view.specs.View.{Around, IsCode, IsAt, Goes}
use Rattle.machine_view.proofs.Places.{register_there, constant_there, extra_there, next_there, target_there}
use Rattle.machine_view.proofs.Rows.{reads, writes_nils, reads_constant, same_text}
use Rattle.machine_view.proofs.Going.{going, at_next, at_second, goes_by, puts}
use Rattle.table_core.specs.declared.value.Value.{Value as Kept}
use Rattle.std.specs.Prelude.{pos, slice_get, slice_set}
use Rattle.code_core.specs.Check.{extra_at}
use Rattle.code_core.specs.Fields.{anything}
use Rattle.code_core.specs.Instruction.{a_of, b_of, bx_of, ax_of}
use Rattle.code_core.specs.Prototype.{Prototype}
use Rattle.code_core.specs.declared.opcode.Opcode.TheVariants.{Move, LoadFalse, LFalseSkip, LoadTrue, LoadK, LoadKx, LoadNil, ExtraArg}
use Rattle.int_core.specs.Value.{Value, boolean, known, nil, write, write_all}
use Rattle.machine_core.specs.Text.{Arg, arg, own, read, write_register, written, read_constant, go_by, nils, Text, trap}
use Rattle.machine_sound.proofs.Lists.{length_set, some_is}
use Rattle.machine_view.proofs.Rows.{write_map}
use Rattle.table_core.specs.declared.value.Value.TheVariants.{Bool as Boolean, Nil}
use Rattle.machine_arms_numbers.specs.Numbers.{cleared, loads_truth}

pub move_does : {w : Instruction} {ws : List Instruction} {ks r s : List Kept} {pc to : ℕ} {v : Kept} → IsAt Move w ws ks r pc → slice_get r (b_of w) ≡ Some v → s ≡ slice_set r (a_of w) v → to ≡ pc + 1 → (fuel : ℕ) → Goes Move w ws ks r pc fuel s to fuel
move_does {w = w} {r = r} {pc = pc} {v = v} h e f p fuel = going (at_next h refl p) (λ g heap cells c.
    reads g heap cells r pc fuel (b_of w) v e (puts g heap cells r pc fuel (a_of w) 1 v c (at_next h refl p) (register_there h 0 (a_of w) refl) refl f p))

pub constant_does : {w : Instruction} {ws : List Instruction} {ks r s : List Kept} {pc to : ℕ} {v : Kept} → IsAt LoadK w ws ks r pc → slice_get ks (bx_of w) ≡ Some v → s ≡ slice_set r (a_of w) v → to ≡ pc + 1 → (fuel : ℕ) → Goes LoadK w ws ks r pc fuel s to fuel
constant_does {w = w} {r = r} {pc = pc} {v = v} h e f p fuel = going (at_next h refl p) (λ g heap cells c.
    reads_constant g heap cells r pc fuel (bx_of w) v c e (puts g heap cells r pc fuel (a_of w) 1 v c (at_next h refl p) (register_there h 0 (a_of w) refl) refl f p))

-- what is written out in the row
pub written_does : {op : Opcode} {w : Instruction} {ws : List Instruction} {ks r s : List Kept} {pc to : ℕ} (x : Arg) (n : ℕ) (v : Kept)
    → ((p : Prototype) (pc : ℕ) → row_of p pc op w ≡ own (write_register (a_of w) x) (λ _ _. go_by (pos n))) → ((texts : List (List ℕ)) → arg [] x ≡ value texts v)
    → to < length ws → a_of w < length r → s ≡ slice_set r (a_of w) v → to ≡ pc + n → (fuel : ℕ) → Goes op w ws ks r pc fuel s to fuel
written_does {w = w} {r = r} {pc = pc} x n v q e l a f p fuel = going l (λ g heap cells c.
    same_text (q g.context.closure.code pc) (puts g heap cells r pc fuel (a_of w) n v c l a (e g.texts) f p))

-- a constant with its number in the next instruction
far : (p : Prototype) (pc ax : ℕ) (k : ℕ → Text) → extra_at p pc ≡ Some ax → Rattle.machine_core.specs.InstructionRows.with_extra p pc k ≡ k ax
far p pc ax k e = ap (λ (o : Option ℕ). elim o as (λ _. Text) [ None ↦ trap | Some ax ↦ k ax ]) e

pub far_constant_there : {w v : Instruction} {ws : List Instruction} {ks r : List Kept} {pc : ℕ} → IsAt LoadKx w ws ks r pc → slice_get ws (pc + 1) ≡ Some v → ax_of v < length ks
far_constant_there {w = w} {v = v} {pc = pc} h e =
    constant_there h 0 (ax_of v) anything (ap (λ (o : Option ℕ). slice_get (Rattle.code_core.specs.Fields.constants LoadKx w o) 0) (extra_there h v refl e))

pub far_constant_does : {w v : Instruction} {ws : List Instruction} {ks r s : List Kept} {pc to : ℕ} {k : Kept} → IsAt LoadKx w ws ks r pc → slice_get ws (pc + 1) ≡ Some v → slice_get ks (ax_of v) ≡ Some k → s ≡ slice_set r (a_of w) k → to ≡ pc + 2
    → (fuel : ℕ) → Goes LoadKx w ws ks r pc fuel s to fuel
far_constant_does {w = w} {v = v} {ws = ws} {ks = ks} {r = r} {pc = pc} {k = k} h u e f p fuel =
    let l = at_second h ExtraArg refl refl p in
    going l (λ g heap cells c.
    same_text (far g.context.closure.code pc (ax_of v) (λ ax. own (read_constant ax) (λ v _. own (write_register (a_of w) (read v)) (λ _ _. go_by (pos 2)))) (extra g c))
    (reads_constant g heap cells r pc fuel (ax_of v) k c e (puts g heap cells r pc fuel (a_of w) 2 k c l (register_there h 0 (a_of w) refl) refl f p)))
  where
    same : (p q : Prototype) → p.own.code ≡ q.own.code → extra_at p pc ≡ extra_at q pc
    same p q e = ap (λ (code : List Instruction). Rattle.std.specs.Prelude.option_and_then (λ w. Rattle.std.specs.Prelude.cond (Rattle.code_core.specs.Check.there (Rattle.code_core.specs.Check.is_same ExtraArg) (Rattle.code_core.specs.Instruction.opcode_of w)) (Some (ax_of w)) None) (slice_get code (pc + 1))) e

    extra : (g : Around) → IsCode g ws ks → extra_at g.context.closure.code pc ≡ Some (ax_of v)
    extra g c = same g.context.closure.code h.code (c.code.words_are ∙ sym h.is_code.words_are) ∙ extra_there h v refl u

-- nils
nils_one_more : (n at : ℕ) (vs : List Value) → write_all at (nils (suc n)) vs ≡ write (at + n) (known nil) (write_all at (nils n) vs)
nils_one_more zero at vs = ap (λ m. write m (known nil) vs) (let e : at ≡ at + 0 = omega arith in e)
nils_one_more (suc n) at vs = nils_one_more n (suc at) (write at (known nil) vs) ∙ ap (λ m. write m (known nil) (write_all (suc at) (nils n) (write at (known nil) vs))) (let e : suc at + n ≡ at + suc n = omega arith in e)

pub cleared_long : (n at : ℕ) (r : List Kept) → length (cleared at n r) ≡ length r
cleared_long zero at r = refl
cleared_long (suc n) at r = length_set (cleared at n r) (at + n) Nil ∙ cleared_long n at r

cleared_is : (f : Kept → Value) (n at : ℕ) (r : List Kept) → f Nil ≡ known nil → at + n ≤ length r → write_all at (nils n) (map f r) ≡ map f (cleared at n r)
cleared_is f zero at r e l = refl
cleared_is f (suc n) at r e l =
    nils_one_more n at (map f r) ∙ ap (write (at + n) (known nil)) (cleared_is f n at r e (omega arith)) ∙ ap (λ v. write (at + n) v (map f (cleared at n r))) (sym e)
    ∙ write_map f (cleared at n r) (at + n) Nil (let m = cleared_long n at r in omega arith)

pub nil_fits : {w : Instruction} {ws : List Instruction} {ks r : List Kept} {pc : ℕ} → IsAt LoadNil w ws ks r pc → a_of w + (b_of w + 1) ≤ length r
nil_fits {w = w} h = let l = register_there h 0 (a_of w + b_of w) refl in omega arith

pub nil_does : {w : Instruction} {ws : List Instruction} {ks r s : List Kept} {pc to : ℕ} → IsAt LoadNil w ws ks r pc → s ≡ cleared (a_of w) (b_of w + 1) r → to ≡ pc + 1 → (fuel : ℕ) → Goes LoadNil w ws ks r pc fuel s to fuel
nil_does {w = w} {r = r} {s = s} {pc = pc} {to = to} h f p fuel = going (at_next h refl p) (λ g heap cells c.
    writes_nils g heap cells r pc fuel (a_of w) (b_of w + 1) s (nil_fits h) (cleared_is (value g.texts) (b_of w + 1) (a_of w) r refl (nil_fits h) ∙ ap (map (value g.texts)) (sym f))
    (goes_by g heap cells s pc fuel to 1 c (at_next h refl p) p))

pub skip_lands : {w : Instruction} {ws : List Instruction} {ks r : List Kept} {pc : ℕ} → IsAt LFalseSkip w ws ks r pc → pc + 2 < length ws
skip_lands {ws = ws} {pc = pc} h =
    let x = target_there h (pos (pc + 2)) refl in
    let q = pos_is (pc + 2) x.0 x.1 in
    subst (λ n. n < length ws) (sym q) x.2
  where
    pos_is : (m n : ℕ) → pos m ≡ pos n → m ≡ n
    pos_is m n e = grind arith

-- a truth

pub record OfTruth (op : Opcode) (w : Instruction) (ws : List Instruction) (r : List Kept) (pc : ℕ) (truth : Bool) (by : ℕ) : Type 0 where
  pub row : (p : Prototype) (pc : ℕ) → row_of p pc op w ≡ own (write_register (a_of w) (written (boolean truth))) (λ _ _. go_by (pos by))
  pub there : a_of w < length r
  pub lands : pc + by < length ws

module _ {w : Instruction} {ws : List Instruction} {ks r : List Kept} {pc : ℕ} {truth : Bool} {by : ℕ} where
  pub of_truth : (op : Opcode) → IsAt op w ws ks r pc → loads_truth op ≡ Some (truth, by) → OfTruth op w ws r pc truth by
  of_truth LoadFalse h e = subst (λ (x : Bool × ℕ). OfTruth LoadFalse w ws r pc x.0 x.1) (some_is refl e) (record { row = λ p pc. refl; there = register_there h 0 (a_of w) refl; lands = next_there h refl })
  of_truth LFalseSkip h e = subst (λ (x : Bool × ℕ). OfTruth LFalseSkip w ws r pc x.0 x.1) (some_is refl e) (record { row = λ p pc. refl; there = register_there h 0 (a_of w) refl; lands = skip_lands h })
  of_truth LoadTrue h e = subst (λ (x : Bool × ℕ). OfTruth LoadTrue w ws r pc x.0 x.1) (some_is refl e) (record { row = λ p pc. refl; there = register_there h 0 (a_of w) refl; lands = next_there h refl })
  of_truth _ h e = absurd (cc)

  pub truth_does : {s : List Kept} {to : ℕ} (op : Opcode) → IsAt op w ws ks r pc → loads_truth op ≡ Some (truth, by) → s ≡ slice_set r (a_of w) (Boolean truth) → to ≡ pc + by → (fuel : ℕ) → Goes op w ws ks r pc fuel s to fuel
  truth_does op h e f p =
      let t = of_truth op h e in
      written_does (written (boolean truth)) by (Boolean truth) t.row (λ texts. refl) (subst (λ n. n < length ws) (sym p) t.lands) t.there f p
