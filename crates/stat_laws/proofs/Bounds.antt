-- The values of a numeric `for`, and the statement as a whole.
use Rattle.std.proofs.Common.{◌≡◌, ℕ, ◌+◌, ◌<◌, ◌≤◌, pos, false, List, [], ◌∷◌, ◌++◌, length, refl, sym, ap, subst, ◌∙◌, arith, length-append}
use Rattle.int_core.specs.Value.{Value, known, integer, nth, write}
use Rattle.int_core.specs.Ask.{Captured}
use Rattle.tree_core.specs.declared.name.Name.{Name}
use Rattle.tree_core.specs.Tree.{Block, NumFor, NumForStep, Exp, Exps, EndExps, MoreExps}
use Rattle.tree_activation.specs.Work.{collect, evaluate, for_counting, listed, Work, Pending}
use Rattle.tree_activation.specs.Work as tree
use Rattle.tree_activation.specs.Asking.{first, go}
use Rattle.tree_activation.specs.Expressions.{added}
use Rattle.list_laws.proofs.Values.{nth_write_same, nth_write_other}
use Rattle.machine_core.specs.Talk.{before}
use Rattle.code_core.specs.declared.opcode.Opcode.TheVariants.{ForPrep, ForLoop}
use Rattle.code_of.specs.Coded.{Coded, with_abx}
use Rattle.code_of.specs.Expressions.{made_by, exp_code}
use Rattle.code_of.specs.Parts.{default_step, pair_code, bounds_code, steps_code}
use Rattle.code_of.specs.Sizes.{block_size}
use Rattle.code_of.specs.Statements.{in_loop, block_code}
use Rattle.exp_laws.specs.Setting.{Setting, hiding}
use Rattle.exp_laws.specs.Placed.{IsPlaced}
use Rattle.exp_laws.proofs.Registers.{Rel, After, after_then, after_put}
use Rattle.exp_laws.proofs.Talking.{Agree, go_left, go_right, of_tree, of_code}
use Rattle.exp_laws.proofs.Placing.{HasAt, has_front, has_back}
use Rattle.exp_laws.proofs.Going.{next_there, at_place}
use Rattle.exp_laws.proofs.Loads.{integer_step}
use Rattle.exp_laws.proofs.Exps.{exp_same}
use Rattle.stat_laws.proofs.Ways.{way}
use Rattle.stat_laws.specs.Scoped.{BoundsArePlaced}
use Rattle.stat_laws.proofs.Blocks.{StatLaw}
use Rattle.stat_laws.proofs.Forms.{BlockLaw}
use Rattle.stat_laws.proofs.Numeric.{Counted, counts_goes}

-- of each only the first value counts
added_one : (es : Exps) (have vs : List Value) → added false es have vs ≡ have ++ first vs ∷ []
added_one EndExps have vs = refl
added_one (MoreExps e es) have vs = refl

module _ (S : Setting) (ps : List Pending) (line : ℕ) (block : Block) where
  -- both go on with the first two values, which stand in the registers t and t + 1
  abbrev Bounded : (n t : ℕ) (es : Exps) (env regs : List Value) (pc : ℕ) (k : List Work) → Type 0
  Bounded n t es env regs pc k =
      (v0 v1 : Value) (env2 regs2 : List Value) (c2 : Captured) (opened2 : ℕ) → After S.hidden S.code.own.stack ps env regs t env2 regs2 c2 → nth regs2 t ≡ v0 → nth regs2 (t + 1) ≡ v1
      → Agree S n (tree.at (collect (for_counting line block) (v0 ∷ v1 ∷ []) es) (of_tree S ps env2 c2) k) (before (of_code S ps pc regs2 opened2) c2)

  pair_goes : (from limit : Exp) (es : Exps) (t j n pc opened : ℕ) (env regs : List Value) (c : Captured) (k : List Work)
      → n ≤ S.bound → HasAt S pc (pair_code S.code.own.constants from limit t j) → BoundsArePlaced S from limit t j → pc + length (pair_code S.code.own.constants from limit t j) < length S.code.own.code
      → length env ≡ t → Rel S.hidden S.code.own.stack ps env c regs → Bounded n t es env regs (pc + length (pair_code S.code.own.constants from limit t j)) k
      → Agree S n (tree.at (collect (for_counting line block) [] (MoreExps from (MoreExps limit es))) (of_tree S ps env c) k) (before (of_code S ps pc regs opened) c)
  pair_goes from limit es t j n pc opened env regs c k fewer has placed inside size rel goes =
      let purpose = for_counting line block in
      let one_code = exp_code S.code.own.constants from t j 2 in
      let two_code = exp_code S.code.own.constants limit (t + 1) (j + made_by from) 2 in
      let sum = length-append one_code two_code in
      go_left S n _ (tree.at (evaluate from) (of_tree S ps env c) (listed purpose [] (MoreExps limit es) ∷ k)) _ refl
      (exp_same S ps from t j n pc opened env regs c (listed purpose [] (MoreExps limit es) ∷ k) fewer (has_front S pc one_code two_code has) (subst (λ u. IsPlaced S from u j) (sym size) placed.0)
      (omega (arith, inside, sum)) (omega (arith, size)) placed.1.0 rel
      (λ vs env1 regs1 c1 opened1 af eq one. go_left S n _ (tree.at (collect purpose (first vs ∷ []) (MoreExps limit es)) (of_tree S ps env1 c1) k) _ refl
      (go_left S n _ (tree.at (evaluate limit) (of_tree S ps env1 c1) (listed purpose (first vs ∷ []) es ∷ k)) _ refl
      (exp_same S ps limit (t + 1) (j + made_by from) n (pc + length one_code) opened1 env1 regs1 c1 (listed purpose (first vs ∷ []) es ∷ k) fewer (has_back S pc one_code two_code has)
      (subst (λ u. IsPlaced S limit u (j + made_by from)) (sym (af.size ∙ size)) placed.1.1.0) (omega (arith, inside, sum)) (omega (arith, size, af.size)) placed.1.1.1 af.rel
      (λ ws env2 regs2 c2 opened2 af2 eq2 one2. go_left S n _ (tree.at (collect purpose (first vs ∷ first ws ∷ []) es) (of_tree S ps env2 c2) k) _
      (ap (λ l. go (collect purpose l es) (of_tree S ps env2 c2) k) (added_one es (first vs ∷ []) ws))
      (at_place S ps n (pc + length one_code + length two_code) (pc + length (one_code ++ two_code)) opened2 _ regs2 c2 (omega (arith, sum))
      (goes (first vs) (first ws) env2 regs2 c2 opened2 (after_then S.hidden S.code.own.stack ps env regs env1 regs1 env2 regs2 c1 c2 t (t + 1) (omega arith) af af2)
      (af2.keeps t (omega (arith, size, af.size)) (omega arith) ∙ eq) eq2)))))))

module _ (S : Setting) (back_field : ℕ) where
  pub numeric_goes : (line : ℕ) (name : Name) (from limit : Exp) (block : Block) → ((t : ℕ) → BlockLaw (hiding S t) back_field block) → StatLaw S back_field (NumFor line name from limit block)
  numeric_goes line name from limit block law n closing closed t j pc named loops reach k fewer has placed titles inside under clear plain jumps done ps env regs c opened s st standing =
      go_left S n s (tree.at (collect (for_counting line block) [] (MoreExps from (MoreExps limit EndExps))) (of_tree S ps env c) k) _ st
      (pair_goes S ps line block from limit EndExps t j n pc opened env regs c k fewer (has_front S pc pair one at_start) placed.0 (omega (arith, inside, sum)) standing.size standing.rel
      (λ v0 v1 env2 regs2 c2 opened2 af e0 e1. let size = standing.size in
      let there = next_there S (pc + length pair + 1) (omega (arith, inside, sum)) in
      let put = after_put S.hidden S.code.own.stack ps env2 regs2 c2 (t + 2) (known (integer (pos 1))) (omega (arith, size, af.size)) af.rel in
      let regs3 = write (t + 2) (known (integer (pos 1))) regs2 in
      go_right S n _ _ (before (of_code S ps (pc + length pair + 1) regs3 opened2) c2)
      (integer_step S.code (of_code S ps (pc + length pair) regs2 opened2) c2 there.0 there.1 (t + 2) (pos 1) (has_back S pc pair one at_start).0 refl (omega (arith, room, S.small)) (omega (arith, room, af.rel.room)))
      (at_place S ps n (pc + length pair + 1) (pc + li) opened2 _ regs3 c2 (omega (arith, sum))
      (counts_goes S back_field line block n closing closed t (j + made_by from + made_by limit) pc (pc + li) exit named loops reach k counted v0 v1 (known (integer (pos 1))) _ ps env2 regs3 c2 opened2 refl
      (record { numbered = standing.numbered; size = af.size ∙ size; rel = put.rel })
      (nth_write_other (t + 2) (known (integer (pos 1))) regs2 t (λ e. absurd (omega (arith, e))) ∙ e0)
      (nth_write_other (t + 2) (known (integer (pos 1))) regs2 (t + 1) (λ e. absurd (omega (arith, e))) ∙ e1)
      (nth_write_same (t + 2) (known (integer (pos 1))) regs2)))))
    where
      pair : List Coded
      pair = pair_code S.code.own.constants from limit t j

      one : List Coded
      one = default_step (t + 2) line

      li : ℕ
      li = length (bounds_code S.code.own.constants from limit t j line)

      sum : length (bounds_code S.code.own.constants from limit t j line) ≡ length pair + 1
      sum = length-append pair one

      exit : ℕ
      exit = pc + (li + (block_size S.code.own.constants (way S back_field) block closing (t + 3) (t + 4) (j + made_by from + made_by limit) + 2))

      inner : List Coded
      inner = block_code S.code.own.constants (way S back_field) block closing (t + 3) (t + 4) (j + made_by from + made_by limit) (pc + li + 1) (in_loop reach exit t)

      behind : List Coded
      behind = with_abx ForPrep t (length inner) line ∷ (inner ++ with_abx ForLoop t (length inner + 1) line ∷ [])

      room : t + 4 ≤ S.code.own.stack
      room = placed.1.0

      at_start : HasAt S pc (pair ++ one)
      at_start = has_front S pc (pair ++ one) behind has

      counted : Counted S back_field line block n closing closed t (j + made_by from + made_by limit) pc (pc + li) exit named loops reach k
      counted = record { law = law t; fewer = fewer; from = omega arith; out = omega arith; inside = inside; has = has_back S pc (pair ++ one) behind has; room = room; near = placed.1.1.0; placed = placed.1.1.1; under = under; clear = clear; titles = titles; plain = plain; jumps = jumps refl; done = done }

  pub stepped_goes : (line : ℕ) (name : Name) (from limit by : Exp) (block : Block) → ((t : ℕ) → BlockLaw (hiding S t) back_field block) → StatLaw S back_field (NumForStep line name from limit by block)
  stepped_goes line name from limit by block law n closing closed t j pc named loops reach k fewer has placed titles inside under clear plain jumps done ps env regs c opened s st standing =
      go_left S n s (tree.at (collect purpose [] (MoreExps from (MoreExps limit (MoreExps by EndExps)))) (of_tree S ps env c) k) _ st
      (pair_goes S ps line block from limit (MoreExps by EndExps) t j n pc opened env regs c k fewer (has_front S pc pair one at_start) placed.0 (omega (arith, inside, sum)) standing.size standing.rel
      (λ v0 v1 env2 regs2 c2 opened2 af e0 e1. let size = standing.size in
      go_left S n _ (tree.at (evaluate by) (of_tree S ps env2 c2) (listed purpose (v0 ∷ v1 ∷ []) EndExps ∷ k)) _ refl
      (exp_same S ps by (t + 2) (j + made_by from + made_by limit) n (pc + length pair) opened2 env2 regs2 c2 (listed purpose (v0 ∷ v1 ∷ []) EndExps ∷ k) fewer (has_back S pc pair one at_start)
      (subst (λ u. IsPlaced S by u (j + made_by from + made_by limit)) (sym (af.size ∙ size)) placed.1.0) (omega (arith, inside, sum)) (omega (arith, size, af.size)) placed.1.1.0 af.rel
      (λ vs env3 regs3 c3 opened3 af3 eq one. go_left S n _ (tree.at (collect purpose (v0 ∷ v1 ∷ first vs ∷ []) EndExps) (of_tree S ps env3 c3) k) _ refl
      (at_place S ps n (pc + length pair + length (exp_code S.code.own.constants by (t + 2) (j + made_by from + made_by limit) 2)) (pc + li) opened3 _ regs3 c3 (omega (arith, sum))
      (counts_goes S back_field line block n closing closed t (j + made_by from + made_by limit + made_by by) pc (pc + li) exit named loops reach k counted v0 v1 (first vs) _ ps env3 regs3 c3 opened3 refl
      (record { numbered = standing.numbered; size = af3.size ∙ af.size ∙ size; rel = af3.rel })
      (af3.keeps t (omega (arith, size, af.size)) (omega arith) ∙ e0) (af3.keeps (t + 1) (omega (arith, size, af.size)) (omega arith) ∙ e1) eq))))))
    where
      purpose : tree.Purpose
      purpose = for_counting line block

      pair : List Coded
      pair = pair_code S.code.own.constants from limit t j

      one : List Coded
      one = exp_code S.code.own.constants by (t + 2) (j + made_by from + made_by limit) 2

      li : ℕ
      li = length (steps_code S.code.own.constants from limit by t j)

      sum : length (steps_code S.code.own.constants from limit by t j) ≡ length pair + length one
      sum = length-append pair one

      exit : ℕ
      exit = pc + (li + (block_size S.code.own.constants (way S back_field) block closing (t + 3) (t + 4) (j + made_by from + made_by limit + made_by by) + 2))

      inner : List Coded
      inner = block_code S.code.own.constants (way S back_field) block closing (t + 3) (t + 4) (j + made_by from + made_by limit + made_by by) (pc + li + 1) (in_loop reach exit t)

      behind : List Coded
      behind = with_abx ForPrep t (length inner) line ∷ (inner ++ with_abx ForLoop t (length inner + 1) line ∷ [])

      at_start : HasAt S pc (pair ++ one)
      at_start = has_front S pc (pair ++ one) behind has

      counted : Counted S back_field line block n closing closed t (j + made_by from + made_by limit + made_by by) pc (pc + li) exit named loops reach k
      counted = record { law = law t; fewer = fewer; from = omega arith; out = omega arith; inside = inside; has = has_back S pc (pair ++ one) behind has; room = placed.1.1.1.0; near = placed.1.1.1.1.0; placed = placed.1.1.1.1.1; under = under; clear = clear; titles = titles; plain = plain; jumps = jumps refl; done = done }
