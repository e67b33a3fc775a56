-- Moves on the own activation keep the relation.
use Rattle.std.proofs.Common.{ℕ, zero, suc, ◌+◌, ◌-◌, ◌≤◌, ◌≡◌, ⊎_elim, max, List, [], ◌∷◌, ◌++◌, length, take, drop, Option, Some, None, refl, sym, ap, subst, ◌∙◌, arith, Bool, true}
use Rattle.std.specs.Prelude.{pos, cond, nat_lt, nat_le, ◌&&◌, ◌||◌, filter}
use Rattle.std.proofs.lemmas.Bool.{cases_eq}
use Rattle.std.proofs.lemmas.Bool.Decides.{nat_tests}
use Rattle.code_core.specs.Prototype.{Prototype}
use Rattle.code_core.specs.Check.{mark, fixed, open_from}
use Rattle.int_core.specs.Value.{Value, is_known, integer, known, nil, nth, range, write, write_all, shape}
use Rattle.machine_core.specs.World.{Activation}
use Rattle.machine_core.specs.Text.{arg, Own, read_register, read_registers, read_list, read_varargs, write_register, write_registers, write_list, write_nils, end_list, cut_from, mark_pending, see_pending, take_pending, drop_pending, keep_results, keep_pending, reads, tells, effect, fits, done, blanked, nils, is_pending, is_there, list_end, list_values, last_pending, without_pending, value_if, behind}
use Rattle.list_laws.proofs.Values.{nth_write_same, nth_write_other}
use Rattle.means_steps.proofs.Alike.{Fixed, Alike}

-- registers that have the same values, where one side may have more of them

write_alike : (s : ℕ) (v : Value) (xs ys : List Value) → ((r : ℕ) → nth xs r ≡ nth ys r) → (r : ℕ) → nth (write s v xs) r ≡ nth (write s v ys) r
write_alike s v xs ys e r = ⊎_elim
    (λ k. subst (λ r. nth (write s v xs) r ≡ nth (write s v ys) r) (sym k) (nth_write_same s v xs ∙ sym (nth_write_same s v ys)))
    (λ n. nth_write_other s v xs r n ∙ e r ∙ sym (nth_write_other s v ys r n))
    (cases_eq r s)

write_size : (s : ℕ) (v : Value) (xs ys : List Value) → length ys ≤ length xs → length (write s v ys) ≤ length (write s v xs)
write_size zero v [] [] l = omega arith
write_size zero v [] (y ∷ ys) l = absurd (omega arith)
write_size zero v (x ∷ xs) [] l = omega arith
write_size zero v (x ∷ xs) (y ∷ ys) l = l
write_size (suc s) v [] [] l = omega arith
write_size (suc s) v [] (y ∷ ys) l = absurd (omega arith)
write_size (suc s) v (x ∷ xs) [] l = let i = write_size s v xs [] (omega arith) in omega (arith, i)
write_size (suc s) v (x ∷ xs) (y ∷ ys) l = let i = write_size s v xs ys (omega arith) in omega (arith, i)

write_all_alike : (at : ℕ) (vs xs ys : List Value) → ((r : ℕ) → nth xs r ≡ nth ys r) → (r : ℕ) → nth (write_all at vs xs) r ≡ nth (write_all at vs ys) r
write_all_alike at [] xs ys e r = e r
write_all_alike at (v ∷ vs) xs ys e r = write_all_alike (suc at) vs (write at v xs) (write at v ys) (write_alike at v xs ys e) r

write_all_size : (at : ℕ) (vs xs ys : List Value) → length ys ≤ length xs → length (write_all at vs ys) ≤ length (write_all at vs xs)
write_all_size at [] xs ys l = l
write_all_size at (v ∷ vs) xs ys l = write_all_size (suc at) vs (write at v xs) (write at v ys) (write_size at v xs ys l)

range_alike : (from count : ℕ) (xs ys : List Value) → ((r : ℕ) → nth xs r ≡ nth ys r) → range from count xs ≡ range from count ys
range_alike from zero xs ys e = refl
range_alike from (suc count) xs ys e = ap (λ v. v ∷ range (suc from) count xs) (e from) ∙ ap (λ vs. nth ys from ∷ vs) (range_alike (suc from) count xs ys e)

list_alike : (from : ℕ) (xs ys : List Value) (end : Option ℕ) → ((r : ℕ) → nth xs r ≡ nth ys r) → list_values from xs end ≡ list_values from ys end
list_alike from xs ys None e = refl
list_alike from xs ys (Some n) e = range_alike from (n - from) xs ys e

value_alike : (xs ys : List Value) (o : Option ℕ) → ((r : ℕ) → nth xs r ≡ nth ys r) → value_if xs o ≡ value_if ys o
value_alike xs ys None e = refl
value_alike xs ys (Some r) e = ap (λ v. v ∷ []) (e r)

blanked_alike : (keeps : ℕ → Bool) (i count : ℕ) (xs ys : List Value) → ((r : ℕ) → nth xs r ≡ nth ys r) → blanked keeps i count xs ≡ blanked keeps i count ys
blanked_alike keeps i zero xs ys e = refl
blanked_alike keeps i (suc count) xs ys e = ap (λ v. cond (keeps i) v (known nil) ∷ blanked keeps (suc i) count xs) (e i) ∙ ap (λ vs. cond (keeps i) (nth ys i) (known nil) ∷ vs) (blanked_alike keeps (suc i) count xs ys e)

take_empty : (n : ℕ) → ◌≡◌ {A = List Value} (take n []) []
take_empty zero = refl
take_empty (suc n) = refl

nth_take : (n : ℕ) (xs ys : List Value) → ((r : ℕ) → nth xs r ≡ nth ys r) → (r : ℕ) → nth (take n xs) r ≡ nth (take n ys) r
nth_take zero xs ys e r = refl
nth_take (suc n) [] [] e r = refl
nth_take (suc n) [] (y ∷ ys) e zero = e zero
nth_take (suc n) [] (y ∷ ys) e (suc r) = ap (λ zs. nth zs r) (sym (take_empty n)) ∙ nth_take n [] ys (λ q. e (suc q)) r
nth_take (suc n) (x ∷ xs) [] e zero = e zero
nth_take (suc n) (x ∷ xs) [] e (suc r) = nth_take n xs [] (λ q. e (suc q)) r ∙ ap (λ zs. nth zs r) (take_empty n)
nth_take (suc n) (x ∷ xs) (y ∷ ys) e zero = e zero
nth_take (suc n) (x ∷ xs) (y ∷ ys) e (suc r) = nth_take n xs ys (λ q. e (suc q)) r

take_size : (n : ℕ) (xs ys : List Value) → length ys ≤ length xs → length (take n ys) ≤ length (take n xs)
take_size zero xs ys l = omega arith
take_size (suc n) xs [] l = omega arith
take_size (suc n) [] (y ∷ ys) l = absurd (omega arith)
take_size (suc n) (x ∷ xs) (y ∷ ys) l = let i = take_size n xs ys (omega arith) in omega (arith, i)

-- activations that are alike: a talks, a' is that of the frame

end_alike : (p : Prototype) (a a' : Activation) → Fixed a a' → list_end p a ≡ list_end p a'
end_alike p a a' e = ap (λ pc. elim (mark p pc) [ fixed ↦ None | open_from r ↦ Some (r + a.opened) ]) e.pc ∙ ap (λ n. elim (mark p a'.pc) [ fixed ↦ None | open_from r ↦ Some (r + n) ]) e.opened

lt_less : (r m n : ℕ) → m ≤ n → nat_lt r m ≡ true → nat_lt r n ≡ true
lt_less r m n l h = grind (arith, nat_tests)

le_less : (r m n : ℕ) → m ≤ n → nat_le r m ≡ true → nat_le r n ≡ true
le_less r m n l h = grind (arith, nat_tests)

module _ (p : Prototype) (env : List Value) (a a' : Activation) (e : Alike a a') where
  listed : (from : ℕ) → list_values from a.registers (list_end p a) ≡ list_values from a'.registers (list_end p a')
  listed from = ap (list_values from a.registers) (end_alike p a a' e.fixed) ∙ list_alike from a.registers a'.registers (list_end p a') e.values

  pended : (r : ℕ) → last_pending r a.pending ≡ last_pending r a'.pending
  pended r = ap (last_pending r) e.fixed.pending

  pub fits_alike : (m : Own) → fits m p a' ≡ true → fits m p a ≡ true
  fits_alike (read_register r) h = lt_less r (length a'.registers) (length a.registers) e.size h
  fits_alike (read_registers from count) h = le_less (behind from count) (length a'.registers) (length a.registers) e.size h
  fits_alike (read_list from) h = ap is_there (end_alike p a a' e.fixed) ∙ h
  fits_alike (write_register r x) h = lt_less r (length a'.registers) (length a.registers) e.size h
  fits_alike (write_registers at count slot) h = le_less (behind at count) (length a'.registers) (length a.registers) e.size h
  fits_alike (write_list at slot) h = lt_less at (length a'.registers) (length a.registers) e.size h
  fits_alike (write_nils at count) h = le_less (at + count) (length a'.registers) (length a.registers) e.size h
  fits_alike (mark_pending r) h = lt_less r (length a'.registers) (length a.registers) e.size h
  fits_alike _ h = h

  pub reads_alike : (m : Own) → reads m p env a ≡ reads m p env a'
  reads_alike (read_register r) = ap (λ v. v ∷ []) (e.values r)
  reads_alike (read_registers from count) = range_alike from count a.registers a'.registers e.values
  reads_alike (read_list from) = listed from
  reads_alike read_varargs = e.fixed.varargs
  reads_alike (see_pending r) = ap (value_if a.registers) (pended r) ∙ value_alike a.registers a'.registers (last_pending r a'.pending) e.values
  reads_alike _ = refl

  pub tells_alike : (m : Own) → tells m p env a ≡ tells m p env a'
  tells_alike (read_register r) = ap shape (e.values r)
  tells_alike (read_list from) = ap (λ vs. is_known (integer (pos (length vs)))) (listed from)
  tells_alike (see_pending r) = ap (λ o. is_known (Rattle.int_core.specs.Value.boolean (is_there o))) (pended r)
  tells_alike _ = refl

  same_registers : (xs ys : List Value) → xs ≡ ys → (r : ℕ) → nth xs r ≡ nth ys r
  same_registers xs ys q r = ap (λ zs. nth zs r) q

  same_size : (xs ys : List Value) → xs ≡ ys → length ys ≤ length xs
  same_size xs ys q = let i = ap (λ (zs : List Value). length zs) q in omega (arith, i)

  kept : (from count : ℕ) → blanked (λ i. is_pending a.pending i || (nat_le from i && nat_lt i (from + count))) 0 (max p.own.stack (behind from count)) a.registers ≡ blanked (λ i. is_pending a'.pending i || (nat_le from i && nat_lt i (from + count))) 0 (max p.own.stack (behind from count)) a'.registers
  kept from count = ap (λ pd. blanked (λ i. is_pending pd i || (nat_le from i && nat_lt i (from + count))) 0 (max p.own.stack (behind from count)) a.registers) e.fixed.pending ∙ blanked_alike (λ i. is_pending a'.pending i || (nat_le from i && nat_lt i (from + count))) 0 (max p.own.stack (behind from count)) a.registers a'.registers e.values

  kept_pending : blanked (is_pending a.pending) 0 p.own.stack a.registers ≡ blanked (is_pending a'.pending) 0 p.own.stack a'.registers
  kept_pending = ap (λ pd. blanked (is_pending pd) 0 p.own.stack a.registers) e.fixed.pending ∙ blanked_alike (is_pending a'.pending) 0 p.own.stack a.registers a'.registers e.values

  pub effect_alike : (m : Own) → Alike (effect m p env a) (effect m p env a')
  effect_alike (write_register r x) = record { fixed = record { pc = e.fixed.pc; varargs = e.fixed.varargs; pending = e.fixed.pending; opened = e.fixed.opened }; values = write_alike r (arg env x) a.registers a'.registers e.values; size = write_size r (arg env x) a.registers a'.registers e.size }
  effect_alike (write_registers at count slot) = record { fixed = record { pc = e.fixed.pc; varargs = e.fixed.varargs; pending = e.fixed.pending; opened = e.fixed.opened }; values = write_all_alike at (range slot count env) a.registers a'.registers e.values; size = write_all_size at (range slot count env) a.registers a'.registers e.size }
  effect_alike (write_list at slot) = record { fixed = record { pc = e.fixed.pc; varargs = e.fixed.varargs; pending = e.fixed.pending; opened = refl }; values = write_all_alike at (drop slot env) a.registers a'.registers e.values; size = write_all_size at (drop slot env) a.registers a'.registers e.size }
  effect_alike (write_nils at count) = record { fixed = record { pc = e.fixed.pc; varargs = e.fixed.varargs; pending = e.fixed.pending; opened = e.fixed.opened }; values = write_all_alike at (nils count) a.registers a'.registers e.values; size = write_all_size at (nils count) a.registers a'.registers e.size }
  effect_alike end_list = record { fixed = record { pc = e.fixed.pc; varargs = e.fixed.varargs; pending = e.fixed.pending; opened = refl }; values = nth_take p.own.stack a.registers a'.registers e.values; size = take_size p.own.stack a.registers a'.registers e.size }
  effect_alike (cut_from r) =
      let q = blanked_alike (λ i. nat_lt i r) 0 p.own.stack a.registers a'.registers e.values in
      record { fixed = record { pc = e.fixed.pc; varargs = e.fixed.varargs; pending = e.fixed.pending; opened = refl }; values = same_registers _ _ q; size = same_size _ _ q }
  effect_alike (mark_pending r) = record { fixed = record { pc = e.fixed.pc; varargs = e.fixed.varargs; pending = ap (λ pd. pd ++ r ∷ []) e.fixed.pending; opened = e.fixed.opened }; values = e.values; size = e.size }
  effect_alike (take_pending r) = record {
    fixed = record { pc = e.fixed.pc; varargs = e.fixed.varargs; pending = ap (without_pending r) e.fixed.pending; opened = e.fixed.opened };
    values = e.values;
    size = e.size;
  }
  effect_alike (drop_pending r) = record { fixed = record { pc = e.fixed.pc; varargs = e.fixed.varargs; pending = ap (λ (pd : List ℕ). filter (λ q. nat_lt q r) pd) e.fixed.pending; opened = e.fixed.opened }; values = e.values; size = e.size }
  effect_alike (keep_results from count) =
      record { fixed = record { pc = e.fixed.pc; varargs = e.fixed.varargs; pending = e.fixed.pending; opened = refl }; values = same_registers _ _ (kept from count); size = same_size _ _ (kept from count) }
  effect_alike keep_pending = record { fixed = record { pc = e.fixed.pc; varargs = e.fixed.varargs; pending = e.fixed.pending; opened = refl }; values = same_registers _ _ kept_pending; size = same_size _ _ kept_pending }
  effect_alike _ = e

pub done_alike : (ms : List Own) (p : Prototype) (env : List Value) (a a' : Activation) → Alike a a' → Alike (done ms p env a) (done ms p env a')
done_alike [] p env a a' e = e
done_alike (m ∷ ms) p env a a' e = done_alike ms p env (effect m p env a) (effect m p env a') (effect_alike p env a a' e m)

pub effect_pc : (m : Own) (p : Prototype) (env : List Value) (a : Activation) → (effect m p env a).pc ≡ a.pc
effect_pc (read_register r) p env a = refl
effect_pc _ p env a = refl

pub done_pc : (ms : List Own) (p : Prototype) (env : List Value) (a : Activation) → (done ms p env a).pc ≡ a.pc
done_pc [] p env a = refl
done_pc (m ∷ ms) p env a = done_pc ms p env (effect m p env a) ∙ effect_pc m p env a
