-- Code that passes the test is guarded, with all that is defined in it.
use Rattle.std.proofs.Common.{◌≡◌, ℕ, Bool, true, false, cond, Option, Some, None, refl, sym, ap, subst, ◌∙◌, length, arith}
use Rattle.std.specs.Prelude.{◌&&◌, nat_eq, slice_get, IsTrue}
use Rattle.std.specs.List.{list_all}
use Rattle.std.proofs.lemmas.Bool.Decides.{nat_tests}
use Rattle.code_core.specs.declared.opcode.Opcode.{Opcode}
use Rattle.code_core.specs.declared.instruction.Instruction.{Instruction}
use Rattle.code_core.specs.declared.proto.UpDesc.{UpDesc}
use Rattle.code_core.specs.Instruction.{opcode_of}
use Rattle.code_core.specs.Prototype.{Prototype, list_of}
use Rattle.code_core.specs.Check.{at}
use Rattle.machine_core.specs.Text.{Text, trap}
use Rattle.machine_core.specs.InstructionRows.{text_at, text_by}
use Rattle.machine_sound.proofs.Lists.{get_within}
use Rattle.machine_sound.proofs.Values.{both_of, all_get}
use Rattle.prelude_guard.specs.Checks.{all_held, held_of, is_taken, is_shared, is_apart_by, code_is_apart, inner_is_apart, is_guarded}
use Rattle.prelude_stays.specs.Guards.{Guard, unguarded, guard_with, Row, apart, WaitsRead, Shares, IsGuarded, kept}
use Rattle.prelude_stays.proofs.Opcodes.{row_reads, rest_reads}

-- the code of one function, which `outer` may make
module _ (outer own : Prototype) (is_inner : Bool) (h : IsTrue (code_is_apart outer own is_inner)) where
  abbrev held : ℕ → Bool
  held = held_of outer own is_inner

  abbrev G : Guard
  G = guard_with (held_of outer own is_inner) own.own.code

  each : (pc : ℕ) (w : Instruction) → at own pc ≡ Some w → IsTrue (is_apart_by (held_of outer own is_inner) own.own.code w (opcode_of w))
  each pc w e = all_get (λ w. is_apart_by (held_of outer own is_inner) own.own.code w (opcode_of w)) own.own.code h pc w e

  rows : (pc : ℕ) → Row G own pc (text_at own pc)
  rows pc = by (at own pc) refl
    where
      named : (w : Instruction) (o : Option Opcode) → IsTrue (is_apart_by (held_of outer own is_inner) own.own.code w o) → Row G own pc (text_by own pc w o)
      named w None h = apart tt
      named w (Some op) h = row_reads (held_of outer own is_inner) own.own.code own pc op w h

      by : (o : Option Instruction) → at own pc ≡ o → Row G own pc (elim o as (λ _. Text) [ None ↦ trap | Some w ↦ text_by own pc w (opcode_of w) ])
      by None e = apart tt
      by (Some w) e = named w (opcode_of w) (each pc w e)

  waits : WaitsRead G own
  waits wait pc w op a o f = rest_reads (held_of outer own is_inner) own.own.code wait own pc op w f (subst (λ o. IsTrue (is_apart_by (held_of outer own is_inner) own.own.code w o)) o (each pc w a))

-- what is known of a function that one of the prelude makes
record IsInner (p q : Prototype) : Type 0 where
  code : IsGuarded (guard_with (held_of p q true) q.own.code) q
  shares : (i : ℕ) (u : UpDesc) → slice_get q.own.upvalues i ≡ Some u → Shares (guard_with (held_of p p false) p.own.code) (guard_with (held_of p q true) q.own.code) i u

share_ok : (p q : Prototype) (i : ℕ) (u : UpDesc) → slice_get q.own.upvalues i ≡ Some u → u.in_stack ≡ true
    → cond u.in_stack (held_of p q true i ≡ false → is_taken all_held p.own.code u.index ≡ false) (held_of p p false u.index ≡ false)
share_ok p q i u e s = subst (λ b. cond b (held_of p q true i ≡ false → is_taken all_held p.own.code u.index ≡ false) (held_of p p false u.index ≡ false)) (sym s) (λ z.
    let a : held_of p q true i ≡ (u.in_stack && is_taken all_held p.own.code u.index) = ap (is_shared p.own.code) e in
    let b : (u.in_stack && is_taken all_held p.own.code u.index) ≡ is_taken all_held p.own.code u.index = ap (λ b. b && is_taken all_held p.own.code u.index) s in
    sym b ∙ sym a ∙ z)

inner_ok : (p q : Prototype) → IsTrue (inner_is_apart p q) → IsInner p q
inner_ok p q h =
    let a = both_of (list_all (λ (u : UpDesc). u.in_stack) q.own.upvalues) (nat_eq (length (list_of q.inner)) 0 && code_is_apart p q true) h in
    let b = both_of (nat_eq (length (list_of q.inner)) 0) (code_is_apart p q true) a.1 in
    record {
      code = kept (guard_with (held_of p q true) q.own.code) q (rows p q true b.1) (waits p q true b.1) (λ n. unguarded) (λ n r e. absurd (nothing n r b.0 e)) (λ n r e. absurd (nothing n r b.0 e));
      shares = λ i u e. share_ok p q i u e (all_get (λ (u : UpDesc). u.in_stack) q.own.upvalues a.0 i u e);
    }
  where
    nothing : (n : ℕ) (r : Prototype) → IsTrue (nat_eq (length (list_of q.inner)) 0) → slice_get (list_of q.inner) n ≡ Some r → ⊥
    nothing n r z e = let l = get_within (list_of q.inner) n r e in let k : length (list_of q.inner) ≡ 0 = grind (arith, nat_tests) in absurd (omega (arith, l, k))

abbrev inner_guard : Prototype → Option Prototype → Guard
inner_guard p None = unguarded
inner_guard p (Some q) = guard_with (held_of p q true) q.own.code

pub guarded_of : (p : Prototype) → IsTrue (is_guarded p) → IsGuarded (guard_with (held_of p p false) p.own.code) p
guarded_of p h =
    let b = both_of (code_is_apart p p false) (list_all (inner_is_apart p) (list_of p.inner)) h in
    kept (guard_with (held_of p p false) p.own.code) p (rows p p false b.0) (waits p p false b.0) (λ n. inner_guard p (slice_get (list_of p.inner) n))
    (λ n q e. subst (λ o. IsGuarded (inner_guard p o) q) (sym e) (inner_ok p q (all_get (inner_is_apart p) (list_of p.inner) b.1 n q e)).code)
    (λ n q e i u z. subst (λ o. Shares (guard_with (held_of p p false) p.own.code) (inner_guard p o) i u) (sym e) ((inner_ok p q (all_get (inner_is_apart p) (list_of p.inner) b.1 n q e)).shares i u z))
