-- Lists of expressions, with as many values as are wanted.
use Rattle.std.proofs.Common.{◌≡◌, ℕ, zero, suc, ◌+◌, ◌-◌, ◌<◌, ◌≤◌, Bool, true, false, cond, List, [], ◌∷◌, ◌++◌, length, Some, None, refl, sym, ap, ◌∙◌, subst, ⊎_elim, arith}
use Rattle.int_core.specs.Value.{Value, known, nil, nth, write_all}
use Rattle.int_core.specs.Ask.{Captured}
use Rattle.tree_core.specs.Tree.{EndExps}
use Rattle.tree_activation.specs.Work.{Purpose, collect, Work, Pending}
use Rattle.tree_activation.specs.Work as tree
use Rattle.machine_core.specs.Text.{list_end, nils}
use Rattle.machine_core.specs.Talk.{before}
use Rattle.list_laws.proofs.Values.{nth_old}
use Rattle.code_of.specs.Expressions.{Wanted, one_less, nils_code}
use Rattle.list_laws.proofs.Tests.{split}
use Rattle.exp_laws.proofs.Registers.{Rel, After, after_none, after_then, after_above}
use Rattle.exp_laws.specs.Setting.{Setting}
use Rattle.exp_laws.proofs.Talking.{Agree, go_right, of_tree, of_code}
use Rattle.exp_laws.proofs.Placing.{HasAt}
use Rattle.exp_laws.proofs.Lists.{Holds, held_rest, write_all_more, write_all_below, write_all_holds}
use Rattle.code_of.specs.Rooms.{room_of_nils}
use Rattle.exp_laws.proofs.Going.{next_there, at_place}
use Rattle.exp_laws.proofs.Calls.{Passed, nils_step}

-- values behind the end of a list are nil
nth_past : (vs : List Value) (i : ℕ) → length vs ≤ i → nth vs i ≡ known nil
nth_past [] i h = refl
nth_past (v ∷ vs) zero h = absurd (omega arith)
nth_past (v ∷ vs) (suc i) h = nth_past vs i (omega arith)

length_nils : (n : ℕ) → length (nils n) ≡ n
length_nils zero = refl
length_nils (suc n) = ap suc (length_nils n)

nth_nils : (n i : ℕ) → nth (nils n) i ≡ known nil
nth_nils zero i = refl
nth_nils (suc n) zero = refl
nth_nils (suc n) (suc i) = nth_nils n i

-- a list goes on
pub nth_behind : (xs ys : List Value) (i : ℕ) → nth (xs ++ ys) (length xs + i) ≡ nth ys i
nth_behind [] ys i = let at : 0 + i ≡ i = omega arith in ap (nth ys) at
nth_behind (x ∷ xs) ys i = let at : length (x ∷ xs) + i ≡ suc (length xs + i) = omega arith in ap (nth (x ∷ (xs ++ ys))) at ∙ nth_behind xs ys i

-- values that stand behind values
pub held_both : (t count more : ℕ) (xs ys regs : List Value) → length xs ≡ count → Holds t count xs regs → Holds (t + count) more ys regs → Holds t (count + more) (xs ++ ys) regs
held_both t count more xs ys regs size a b i lt = ⊎_elim (λ h. old h) (λ h. new h) (split i count)
  where
    old : i < count → nth regs (t + i) ≡ nth (xs ++ ys) i
    old h = a i h ∙ sym (nth_old xs ys i (omega (arith, size)))

    new : count ≤ i → nth regs (t + i) ≡ nth (xs ++ ys) i
    new h =
        let at : t + i ≡ t + count + (i - count) = omega arith in
        let from : length xs + (i - count) ≡ i = omega (arith, size) in
        ap (nth regs) at ∙ b (i - count) (omega arith) ∙ sym (nth_behind xs ys (i - count)) ∙ ap (nth (xs ++ ys)) from

-- how a list stands in registers: of those that are wanted each has its register; else all do, and an open list ends behind the last one
abbrev pub total : Wanted → (above : ℕ) → Wanted
total None above = None
total (Some n) above = Some (above + n)

module _ (S : Setting) (pending : List Pending) where
  abbrev pub Listed : Wanted → (many : Bool) → (size pc base : ℕ) → (vs regs : List Value) → (opened : ℕ) → Type 0
  Listed (Some n) many size pc base vs regs opened = Holds base n vs regs
  Listed None false size pc base vs regs opened = (length vs ≡ size) × Holds base (length vs) vs regs
  Listed None true size pc base vs regs opened = (size ≤ suc (length vs)) × ((list_end S.code (of_code S pending pc regs opened) ≡ Some (base + length vs)) × ((base + length vs ≤ length regs) × Holds base (length vs) vs regs))

  -- the code at pc goes on as the work k does once a list is complete
  abbrev pub GoesListed : (n : ℕ) → Wanted → (many : Bool) → (size : ℕ) → Purpose → (base : ℕ) → (env regs : List Value) → (pc : ℕ) → (k : List Work) → Type 0
  GoesListed n wanted many size purpose base env regs pc k =
      (vs env' regs' : List Value) (c' : Captured) (opened' : ℕ) → After S.hidden S.code.own.stack pending env regs base env' regs' c' → Listed wanted many size pc base vs regs' opened'
      → Agree S n (tree.at (collect purpose vs EndExps) (of_tree S pending env' c') k) (before (of_code S pending pc regs' opened') c')

  pub listed_at : (n : ℕ) (wanted : Wanted) (many : Bool) (size : ℕ) (purpose : Purpose) (base pc pc' : ℕ) (env regs : List Value) (k : List Work) → pc ≡ pc' → GoesListed n wanted many size purpose base env regs pc' k → GoesListed n wanted many size purpose base env regs pc k
  listed_at n wanted many size purpose base pc pc' env regs k e goes = subst (λ q. GoesListed n wanted many size purpose base env regs q k) (sym e) goes

  pub listed_after : (n : ℕ) (wanted : Wanted) (many : Bool) (size : ℕ) (purpose : Purpose) (base pc : ℕ) (env regs env1 regs1 : List Value) (c1 : Captured) (k : List Work) → After S.hidden S.code.own.stack pending env regs base env1 regs1 c1
      → GoesListed n wanted many size purpose base env regs pc k → GoesListed n wanted many size purpose base env1 regs1 pc k
  listed_after n wanted many size purpose base pc env regs env1 regs1 c1 k af goes = λ vs env2 regs2 c2 o2 af2 listed. goes vs env2 regs2 c2 o2 (after_then S.hidden S.code.own.stack pending env regs env1 regs1 env2 regs2 c1 c2 base base (omega arith) af af2) listed

  -- a list is complete: values that are wanted and not there are nil
  pub nils_goes : (wanted : Wanted) (n : ℕ) (purpose : Purpose) (base above line pc opened : ℕ) (have env regs : List Value) (c : Captured) (k : List Work) → HasAt S pc (nils_code wanted (base + above) line) → pc + length (nils_code wanted (base + above) line) < length S.code.own.code
      → length have ≡ above → Holds base above have regs → length env ≤ base → base + above ≤ S.code.own.stack → base + room_of_nils above wanted ≤ S.code.own.stack → Rel S.hidden S.code.own.stack pending env c regs
      → GoesListed n (total wanted above) false above purpose base env regs (pc + length (nils_code wanted (base + above) line)) k
      → Agree S n (tree.at (collect purpose have EndExps) (of_tree S pending env c) k) (before (of_code S pending pc regs opened) c)
  nils_goes None n purpose base above line pc opened have env regs c k has inside size held le below room rel goes =
      let same : pc ≡ pc + 0 = omega arith in
      at_place S pending n pc (pc + 0) opened _ regs c same (goes have env regs c opened (after_none S.hidden S.code.own.stack pending env regs c base rel) (size, subst (λ m. Holds base m have regs) (sym size) held))
  nils_goes (Some zero) n purpose base above line pc opened have env regs c k has inside size held le below room rel goes =
      let same : pc ≡ pc + 0 = omega arith in
      let none : above ≡ above + 0 = omega arith in
      at_place S pending n pc (pc + 0) opened _ regs c same (goes have env regs c opened (after_none S.hidden S.code.own.stack pending env regs c base rel) (subst (λ m. Holds base m have regs) none held))
  nils_goes (Some (suc m)) n purpose base above line pc opened have env regs c k has inside size held le below room rel goes =
      let there = next_there S (pc + 1) inside in
      let t = base + above in
      let wide = length_nils (m + 1) in
      let regs1 = write_all t (nils (m + 1)) regs in
      let more = write_all_more t (nils (m + 1)) regs in
      go_right S n _ _ (before (of_code S pending (pc + 1) regs1 opened) c)
      (nils_step S.code t m there.0 (of_code S pending pc regs opened) c has.0 there.1 (omega (arith, room, S.small)) (omega (arith, room, S.small)) (omega (arith, room, rel.room)))
      (goes have env regs1 c opened
      (after_above S.hidden S.code.own.stack pending env regs regs1 c base le rel (λ r lt. write_all_below t (nils (m + 1)) regs r (omega arith)) (omega (arith, more, rel.room)))
      (λ i lt. by i lt))
    where
      old : (i : ℕ) → i < above → nth (write_all (base + above) (nils (m + 1)) regs) (base + i) ≡ nth have i
      old i h = write_all_below (base + above) (nils (m + 1)) regs (base + i) (omega arith) ∙ held i h

      new : (i : ℕ) → i < above + suc m → above ≤ i → nth (write_all (base + above) (nils (m + 1)) regs) (base + i) ≡ nth have i
      new i lt h =
          let wide = length_nils (m + 1) in
          let at : base + i ≡ base + above + (i - above) = omega arith in
          ap (nth (write_all (base + above) (nils (m + 1)) regs)) at ∙ write_all_holds (base + above) (nils (m + 1)) regs (i - above) (omega (arith, wide))
          ∙ nth_nils (m + 1) (i - above) ∙ sym (nth_past have i (omega (arith, size)))

      by : (i : ℕ) → i < above + suc m → nth (write_all (base + above) (nils (m + 1)) regs) (base + i) ≡ nth have i
      by i lt = ⊎_elim (λ h. old i h) (λ h. new i lt h) (split i above)

  -- one value is there and one less is wanted
  pub listed_less : (n : ℕ) (wanted : Wanted) (many : Bool) (size size' : ℕ) (purpose : Purpose) (base above pc : ℕ) (env regs : List Value) (k : List Work) → size ≡ size' → GoesListed n (total wanted above) many size purpose base env regs pc k
      → GoesListed n (total (one_less wanted) (above + 1)) many size' purpose base env regs pc k
  listed_less n None many size size' purpose base above pc env regs k e goes = subst (λ z. GoesListed n None many z purpose base env regs pc k) e goes
  listed_less n (Some m) many size size' purpose base above pc env regs k e goes = λ vs env1 regs1 c1 o1 af listed. goes vs env1 regs1 c1 o1 af (λ i lt. listed i (omega arith))

  -- a call's arguments stand in registers
  pub passed : (many : Bool) (size field pc base opened : ℕ) (f : Value) (args regs : List Value) → field ≡ cond many 0 size → (many ≡ false → base + size ≤ length regs) → Listed None many size pc base (f ∷ args) regs opened
      → Passed S.code field (base + 1) args (of_code S pending pc regs opened)
  passed true size field pc base opened f args regs is fits listed =
      let end : base + length (f ∷ args) ≡ base + 1 + length args = omega arith in
      subst (λ z. Passed S.code z (base + 1) args (of_code S pending pc regs opened)) (sym is) (listed.1.0 ∙ ap Some end, held_rest base (length args) f args regs listed.1.1.1)
  passed false size field pc base opened f args regs is fits listed =
      let wide = listed.0 in
      let enough = fits refl in
      subst (λ z. Passed S.code z (base + 1) args (of_code S pending pc regs opened)) (listed.0 ∙ sym is) (refl, (omega (arith, wide, enough), held_rest base (length args) f args regs listed.1))

  -- a whole list stands in registers, as an instruction takes it
  pub passed_all : (many : Bool) (size field pc base opened : ℕ) (vs regs : List Value) → field ≡ cond many 0 (size + 1) → (many ≡ false → base + size ≤ length regs) → Listed None many size pc base vs regs opened
      → Passed S.code field base vs (of_code S pending pc regs opened) × ((base + length vs ≤ length regs) × Holds base (length vs) vs regs)
  passed_all true size field pc base opened vs regs is fits listed =
      (subst (λ z. Passed S.code z base vs (of_code S pending pc regs opened)) (sym is) (listed.1.0, listed.1.1.1), listed.1.1)
  passed_all false size field pc base opened vs regs is fits listed =
      let one : size + 1 ≡ suc size = omega arith in
      let wide = listed.0 in
      let enough = fits refl in
      (subst (λ z. Passed S.code z base vs (of_code S pending pc regs opened)) (sym (is ∙ one)) (wide, (enough, listed.1)), (omega (arith, wide, enough), listed.1))
