-- What a row comes to on the registers that are kept, step by step from its front.
use Rattle.std.proofs.Common.{◌≡◌, ℕ, zero, suc, ◌+◌, ◌<◌, ◌≤◌, List, [], ◌∷◌, ◌++◌, length, map, Option, Some, None, refl, ap, sym, ◌∙◌, subst, arith, true}
use Rattle.std.specs.Prelude.{ℤ, cond, slice_get, slice_set, nat_lt}
use Rattle.std.proofs.lemmas.List.{length-map}
use Rattle.code_core.specs.declared.instruction.Instruction.{Instruction}
use Rattle.code_core.specs.declared.proto.Const.{Const}
use Rattle.int_core.specs.Heap.{Heap}
use Rattle.int_core.specs.Value.{Value, known, nil, Shape, shape, is_known, nth, write, write_all}
use Rattle.int_core.specs.Operations.{Operation, found, ask, fault, cannot_arise, does}
use Rattle.lua_heap.specs.Reading.{value}
use Rattle.machine_core.specs.World.{Cell, Wait}
use Rattle.machine_core.specs.Text.{Arg, arg, args_of, operate, read_register, write_register, write_nils, nils, see, read_constant, Text, go_by, own, quick, pay, constant}
use Rattle.machine_core.specs.Moves.{place_from}
use Rattle.machine_sound.proofs.Lists.{get_map, map_get, get_within, get_there}
use Rattle.machine_sound.proofs.Values.{lt_true, le_true}
use Rattle.machine_focus.specs.Focus.{Context, Held, local, moved, with_pc}
use Rattle.machine_view.specs.View.{Around, held, IsCode}
use Rattle.table_core.specs.declared.value.Value.{Value as Kept}

pub nth_map : {A : Type 0} (f : A → Value) (r : List A) (b : ℕ) (v : A) → slice_get r b ≡ Some v → nth (map f r) b ≡ f v
nth_map f r b v e = ap (λ o. elim o as (λ _. Value) [ None ↦ known nil | Some v ↦ v ]) (get_map f r b v e)

pub write_map : {A : Type 0} (f : A → Value) (r : List A) (a : ℕ) (v : A) → a < length r → write a (f v) (map f r) ≡ map f (slice_set r a v)
write_map f [] a v l = absurd (omega arith)
write_map f (x ∷ r) zero v l = refl
write_map f (x ∷ r) (suc a) v l = ap (λ l. f x ∷ l) (write_map f r a v (omega arith))

is_there : {A : Type 0} (f : A → Value) (r : List A) (a : ℕ) → a < length r → nat_lt a (length (map f r)) ≡ true
is_there f r a l = lt_true a (length (map f r)) (rw (length-map r f) l)

pub record Comes (c : Context) (t : Text) (env : List Value) (h : Held) (o : Option Held) : Type 0 where
  pub is : local c t env h ≡ o

pub comes : {c : Context} {t : Text} {env : List Value} {h : Held} {o : Option Held} → local c t env h ≡ o → Comes c t env h o
comes e = record { is = e }

-- the same row under another text
pub same_text : {c : Context} {s t : Text} {env : List Value} {h : Held} {o : Option Held} → s ≡ t → Comes c t env h o → Comes c s env h o
same_text {c = c} {env = env} {h = h} {o = o} e x = subst (λ t. Comes c t env h o) (sym e) x

module _ (g : Around) (heap : Heap) (cells : List Cell) (r : List Kept) (pc fuel : ℕ) where
  pub reads : {k : ℕ → Shape → Text} {env : List Value} {o : Option Held} (b : ℕ) (v : Kept) → slice_get r b ≡ Some v
      → Comes g.context (k (length env) (shape (value g.texts v))) (env ++ value g.texts v ∷ []) (held g heap cells r pc fuel) o
      → Comes g.context (own (read_register b) k) env (held g heap cells r pc fuel) o
  reads {k = k} {env = env} {o = o} b v e q = comes (
      ap (λ t. cond t (local g.context (k (length env) (shape (nth (map (value g.texts) r) b))) (env ++ nth (map (value g.texts) r) b ∷ []) (held g heap cells r pc fuel)) None) (is_there (value g.texts) r b (get_within r b v e))
      ∙ ap (λ v. local g.context (k (length env) (shape v)) (env ++ v ∷ []) (held g heap cells r pc fuel)) (nth_map (value g.texts) r b v e)
      ∙ q.is)

  pub writes : {k : ℕ → Shape → Text} {env : List Value} {o : Option Held} {x : Arg} (a : ℕ) (v : Kept) → a < length r → arg env x ≡ value g.texts v
      → Comes g.context (k (length env) (is_known nil)) (env ++ []) (held g heap cells (slice_set r a v) pc fuel) o
      → Comes g.context (own (write_register a x) k) env (held g heap cells r pc fuel) o
  writes {k = k} {env = env} {o = o} {x = x} a v l e q = comes (
      ap (λ t. cond t (local g.context (k (length env) (is_known nil)) (env ++ []) (record (held g heap cells r pc fuel) { own = record (held g heap cells r pc fuel).own { registers = write a (arg env x) (map (value g.texts) r) } })) None) (is_there (value g.texts) r a l)
      ∙ ap (λ rs. local g.context (k (length env) (is_known nil)) (env ++ []) (record (held g heap cells r pc fuel) { own = record (held g heap cells r pc fuel).own { registers = rs } })) (ap (λ v. write a v (map (value g.texts) r)) e ∙ write_map (value g.texts) r a v l)
      ∙ q.is)

  pub writes_nils : {k : ℕ → Shape → Text} {env : List Value} {o : Option Held} (a count : ℕ) (s : List Kept) → a + count ≤ length r → write_all a (nils count) (map (value g.texts) r) ≡ map (value g.texts) s
      → Comes g.context (k (length env) (is_known nil)) (env ++ []) (held g heap cells s pc fuel) o
      → Comes g.context (own (write_nils a count) k) env (held g heap cells r pc fuel) o
  writes_nils {k = k} {env = env} {o = o} a count s l e q = comes (
      ap (λ t. cond t (local g.context (k (length env) (is_known nil)) (env ++ []) (record (held g heap cells r pc fuel) { own = record (held g heap cells r pc fuel).own { registers = write_all a (nils count) (map (value g.texts) r) } })) None) (le_true (a + count) (length (map (value g.texts) r)) (rw (length-map r (value g.texts)) l))
      ∙ ap (λ rs. local g.context (k (length env) (is_known nil)) (env ++ []) (record (held g heap cells r pc fuel) { own = record (held g heap cells r pc fuel).own { registers = rs } })) e
      ∙ q.is)

  pub sees : {k : ℕ → Shape → Text} {env : List Value} {o : Option Held} {x : Arg}
      → Comes g.context (k (length env) (shape (arg env x))) (env ++ []) (held g heap cells r pc fuel) o
      → Comes g.context (own (see x) k) env (held g heap cells r pc fuel) o
  sees q = comes q.is

  pub reads_constant : {k : ℕ → Shape → Text} {env : List Value} {o : Option Held} {ws : List Instruction} {ks : List Kept} (n : ℕ) (v : Kept) → IsCode g ws ks → slice_get ks n ≡ Some v
      → Comes g.context (k (length env) (shape (value g.texts v))) (env ++ value g.texts v ∷ []) (held g heap cells r pc fuel) o
      → Comes g.context (own (read_constant n) k) env (held g heap cells r pc fuel) o
  reads_constant {k = k} {env = env} {o = o} {ks = ks} n v c e q = comes (by (map_get (λ k. known (constant k)) cs n (value g.texts v) (ap (λ xs. slice_get xs n) c.code.constants_are ∙ get_map (value g.texts) ks n v e)))
    where
      cs : List Const
      cs = g.context.closure.code.own.constants

      by : (x : Const) × (slice_get g.context.closure.code.own.constants n ≡ Some x) × (known (constant x) ≡ value g.texts v) → local g.context (own (read_constant n) k) env (held g heap cells r pc fuel) ≡ o
      by x =
          ap (λ t. cond t (local g.context (k (length env) (elim (slice_get g.context.closure.code.own.constants n) [ None ↦ is_known nil | Some c ↦ is_known (constant c) ])) (env ++ elim (slice_get g.context.closure.code.own.constants n) [ None ↦ [] | Some c ↦ known (constant c) ∷ [] ]) (held g heap cells r pc fuel)) None)
          (lt_true n (length g.context.closure.code.own.constants) (get_within g.context.closure.code.own.constants n x.0 x.1))
          ∙ ap (λ (o : Option Const). local g.context (k (length env) (elim o [ None ↦ is_known nil | Some c ↦ is_known (constant c) ])) (env ++ elim o [ None ↦ [] | Some c ↦ known (constant c) ∷ [] ]) (held g heap cells r pc fuel)) x.1
          ∙ ap (λ v. local g.context (k (length env) (shape v)) (env ++ v ∷ []) (held g heap cells r pc fuel)) x.2
          ∙ q.is

  pub goes_to : {z : ℤ} {env : List Value} {ws : List Instruction} {ks : List Kept} (to : ℕ) → IsCode g ws ks → to < length ws → place_from pc z ≡ Some to
      → Comes g.context (go_by z) env (held g heap cells r pc fuel) (Some (held g heap cells r to fuel))
  goes_to {ws = ws} to c l e =
      let t = get_there ws to l in
      comes (ap (moved g.context (held g heap cells r pc fuel)) e ∙ ap (λ o. elim o as (λ _. Option Held) [ None ↦ None | Some _ ↦ Some (with_pc (held g heap cells r pc fuel) to) ]) (ap (λ ws. slice_get ws to) c.code.words_are ∙ t.1))

  pub pays : {k : ℕ → Text} {env : List Value} {o : Option Held} (left : ℕ) → fuel ≡ suc left
      → Comes g.context (k (length env)) (env ++ []) (held g heap cells r pc left) o
      → Comes g.context (quick pay k) env (held g heap cells r pc fuel) o
  pays {k = k} {env = env} left e q = comes (ap (λ n. elim n as (λ _. Option Held) [ zero ↦ None | suc fuel ↦ local g.context (k (length env)) (env ++ []) (held g heap cells r pc fuel) ]) e ∙ q.is)

  -- an operation that is settled at once and leaves the heap as it is
  pub settles : {op : Operation} {xs : List Arg} {wait : Wait Arg} {t : Text} {env vs : List Value} {o : Option Held} → does op (args_of env xs) heap ≡ found heap vs
      → Comes g.context t vs (held g heap cells r pc fuel) o
      → Comes g.context (operate op xs wait [] t) env (held g heap cells r pc fuel) o
  settles {t = t} e q = comes (ap (λ r'. elim r' as (λ _. Option Held) [ found H vs ↦ local g.context t vs (record (held g heap cells r pc fuel) { heap = H }) | ask h vs ↦ None | fault text ↦ None | cannot_arise ↦ None ]) e ∙ q.is)
