-- Declarations of locals, to be closed or not, and calls that are statements.
use Rattle.std.proofs.Common.{◌≡◌, ℕ, zero, suc, ◌+◌, ◌-◌, ◌<◌, ◌≤◌, lit<, Bool, true, false, cond, List, [], ◌∷◌, ◌++◌, length, Some, ⊎_elim, refl, sym, ap, subst, ◌∙◌, arith, append_assoc, length-append}
use Rattle.int_core.specs.Value.{Value, nth, fitted}
use Rattle.int_core.proofs.ValueLemmas.{length_fitted}
use Rattle.int_core.specs.Ask.{Captured}
use Rattle.tree_core.specs.declared.name.Declared.{Declared}
use Rattle.tree_core.specs.declared.name.Name.{Name}
use Rattle.tree_core.specs.Tree.{Body, Local, LocalFunction, CallStat, Exp, Exps, EndExps}
use Rattle.tree_activation.specs.Work.{Control, complete, collect, evaluate, give, for_declaration, dropped, mark, Work, Pending, State}
use Rattle.tree_activation.specs.Work as tree
use Rattle.tree_activation.specs.Statements.{is_closed, marks_closed}
use Rattle.code_core.specs.declared.opcode.Opcode.TheVariants.{Tbc}
use Rattle.machine_core.specs.Talk.{before}
use Rattle.list_laws.proofs.Items.{append_nil}
use Rattle.list_laws.proofs.Values.{nth_old}
use Rattle.code_of.specs.Coded.{Coded, with_abc}
use Rattle.code_of.specs.Expressions.{exps_code}
use Rattle.code_of.specs.Parts.{marks_code}
use Rattle.exp_laws.proofs.Registers.{AllUnder, hides_more, Rel, Ascends, held_higher, ascends_higher}
use Rattle.exp_laws.specs.Setting.{Hidden, Setting}
use Rattle.exp_laws.proofs.Talking.{Agree, go_left, of_tree, of_code}
use Rattle.exp_laws.proofs.Placing.{HasAt, has_front, has_back}
use Rattle.exp_laws.specs.Placed.{IsPlaced, ArePlaced}
use Rattle.exp_laws.proofs.Lists.{Holds}
use Rattle.exp_laws.proofs.ListForms.{nth_behind}
use Rattle.exp_laws.proofs.LocalFunctions.{local_function_goes}
use Rattle.exp_laws.proofs.Exps.{open_same, exps_same}
use Rattle.stat_laws.proofs.Labels.{closed_numbers}
use Rattle.exp_laws.proofs.Going.{at_place}
use Rattle.exp_laws.proofs.Marking.{mark_goes}
use Rattle.machine_core.specs.InstructionRows.{variable_name}
use Rattle.std.specs.Prelude.{codes}
use Rattle.stat_laws.proofs.Naming.{past_mark, AreNamed}
use Rattle.stat_laws.proofs.Closing.{AllBelow}
use Rattle.stat_laws.proofs.Standing.{numbers, below_higher, ascends_under}
use Rattle.stat_laws.proofs.Blocks.{StatLaw, below_more}
use Rattle.list_laws.proofs.Tests.{split}

pub nth_fitted : (n : ℕ) (vs : List Value) (i : ℕ) → i < n → nth (fitted n vs) i ≡ nth vs i
nth_fitted zero vs i h = absurd (omega arith)
nth_fitted (suc n) [] zero h = refl
nth_fitted (suc n) [] (suc i) h = nth_fitted n [] i (omega arith)
nth_fitted (suc n) (v ∷ vs) zero h = refl
nth_fitted (suc n) (v ∷ vs) (suc i) h = nth_fitted n vs i (omega arith)

-- locals are declared whose values stand in the registers behind those in scope
pub rel_declared : (hidden : Hidden) (stack t m : ℕ) (ps : List Pending) (env regs vs : List Value) (c : Captured) → length env ≡ t → t + m ≤ stack → AllUnder hidden.integers t → Holds t m vs regs → Rel hidden stack ps env c regs
    → Rel hidden stack ps (env ++ fitted m vs) c regs
rel_declared hidden stack t m ps env regs vs c size room under held rel =
    let sum = length-append env (fitted m vs) in
    let wide = length_fitted m vs in
    record {
      agree = λ r lr. ⊎_elim (λ h. nth_old env (fitted m vs) r h ∙ rel.agree r h) (λ h. new r (omega (arith, sum, wide, size, lr)) h) (split r (length env));
      held = held_higher c.held (length env) (length (env ++ fitted m vs)) (omega (arith, sum)) rel.held;
      hides = hides_more hidden env (fitted m vs) c.held (subst (AllUnder hidden.integers) (sym size) under) rel.hides;
      ascends = ascends_higher 0 (length env) (length (env ++ fitted m vs)) ps (omega (arith, sum)) rel.ascends;
      fits = omega (arith, sum, wide, size, room);
      room = rel.room;
    }
  where
    new : (r : ℕ) → r < t + m → length env ≤ r → nth (env ++ fitted m vs) r ≡ nth regs r
    new r lr h =
        let i : length env + (r - length env) ≡ r = omega arith in
        let there : t + (r - length env) ≡ r = omega (arith, size) in
        ap (nth (env ++ fitted m vs)) (sym i) ∙ nth_behind env (fitted m vs) (r - length env) ∙ nth_fitted m vs (r - length env) (omega (arith, size)) ∙ sym (held (r - length env) (omega (arith, size))) ∙ ap (nth regs) there

pub numbers_both : (ps qs : List Pending) → numbers (ps ++ qs) ≡ numbers ps ++ numbers qs
numbers_both [] qs = refl
numbers_both (p ∷ ps) qs = ap (λ l. p.number ∷ l) (numbers_both ps qs)

module _ (S : Setting) where
  abbrev GoesMarked : (n size : ℕ) (closed : List ℕ) (pc opened : ℕ) (k : List Work) → Type 0
  GoesMarked n size closed pc opened k =
      (ps : List Pending) (env regs : List Value) (c : Captured) → numbers ps ≡ closed → length env ≡ size → Rel S.hidden S.code.own.stack ps env c regs → Agree S n (tree.at complete (of_tree S ps env c) k) (before (of_code S ps pc regs opened) c)

  -- the variables of a declaration that are to be closed are marked in their order; the first of the names has the number m
  marks_goes : (names : List Declared) (m r n size pc opened : ℕ) (closed : List ℕ) (ps : List Pending) (env regs : List Value) (c : Captured) (k : List Work) → m ≡ r → r + length names ≤ size → HasAt S pc (marks_code names r) → AreNamed S.lines S.code names r pc
      → pc + length (marks_code names r) < length S.code.own.code → AllBelow closed r → numbers ps ≡ closed → length env ≡ size → Rel S.hidden S.code.own.stack ps env c regs → GoesMarked n size (closed ++ closed_numbers names r) (pc + length (marks_code names r)) opened k
      → Agree S n (tree.at (marks_closed m names complete) (of_tree S ps env c) k) (before (of_code S ps pc regs opened) c)
  marks_goes [] m r n size pc opened closed ps env regs c k same room has named inside under numbered wide rel goes =
      let here : pc ≡ pc + 0 = omega arith in
      at_place S ps n pc (pc + 0) opened _ regs c here (goes ps env regs c (numbered ∙ sym (append_nil closed)) wide rel)
  marks_goes (d ∷ names) m r n size pc opened closed ps env regs c k same room has named inside under numbered wide rel goes =
      by (is_closed d.attrib) has named.0 named.1 inside goes
      (λ pc' closed' ps' env' regs' c' has' told' inside' under' numbered' wide' rel' goes'. marks_goes names (suc m) (r + 1) n size pc' opened closed' ps' env' regs' c' k (omega (arith, same)) (omega (arith, room)) has' told' inside' under' numbered' wide' rel' goes')
    where
      Rest : Type 0
      Rest =
          (pc' : ℕ) (closed' : List ℕ) (ps' : List Pending) (env' regs' : List Value) (c' : Captured) → HasAt S pc' (marks_code names (r + 1)) → AreNamed S.lines S.code names (r + 1) pc' → pc' + length (marks_code names (r + 1)) < length S.code.own.code → AllBelow closed' (r + 1) → numbers ps' ≡ closed'
          → length env' ≡ size → Rel S.hidden S.code.own.stack ps' env' c' regs' → GoesMarked n size (closed' ++ closed_numbers names (r + 1)) (pc' + length (marks_code names (r + 1))) opened k
          → Agree S n (tree.at (marks_closed (suc m) names complete) (of_tree S ps' env' c') k) (before (of_code S ps' pc' regs' opened) c')

      later : AllBelow closed (r + 1)
      later = below_higher r (r + 1) closed (omega arith) under

      above : Ascends 0 ps r
      above = ascends_under 0 (length env) r ps [] (subst (λ l. Ascends 0 l (length env)) (sym (append_nil ps)) rel.ascends) (subst (λ l. AllBelow l r) (sym numbered) under)

      by : (b : Bool) → HasAt S pc (cond b (with_abc Tbc r 0 0 d.name.line ∷ marks_code names (r + 1)) (marks_code names (r + 1))) → (b ≡ true → variable_name S.code pc r ≡ cond S.lines d.name.text (codes "?")) → AreNamed S.lines S.code names (r + 1) (pc + past_mark b)
          → pc + length (cond b (with_abc Tbc r 0 0 d.name.line ∷ marks_code names (r + 1)) (marks_code names (r + 1))) < length S.code.own.code
          → GoesMarked n size (closed ++ cond b (r ∷ closed_numbers names (r + 1)) (closed_numbers names (r + 1))) (pc + length (cond b (with_abc Tbc r 0 0 d.name.line ∷ marks_code names (r + 1)) (marks_code names (r + 1)))) opened k
          → Rest
          → Agree S n (tree.at (cond b (mark d.name.line d.name.text m (marks_closed (suc m) names complete)) (marks_closed (suc m) names complete)) (of_tree S ps env c) k) (before (of_code S ps pc regs opened) c)
      by false has' is told inside' goes' more = more pc closed ps env regs c has' (let here : pc + 0 ≡ pc = omega arith in subst (AreNamed S.lines S.code names (r + 1)) here told) inside' later numbered wide rel goes'
      by true has' is told inside' goes' more =
          subst (λ q. Agree S n (tree.at (mark d.name.line d.name.text q (marks_closed (suc m) names complete)) (of_tree S ps env c) k) (before (of_code S ps pc regs opened) c)) (sym same)
          (mark_goes S ps n d.name.line r pc opened d.name.text (marks_closed (suc m) names complete) env regs c k (has'.0, (has'.1.0, tt)) (omega (arith, inside')) (is refl) above (omega (arith, room, wide)) rel
          (λ needed env1 regs1 c1 size1 rel1. more (pc + 1) (closed ++ r ∷ []) (ps ++ record { number = r; needed = needed } ∷ []) env1 regs1 c1 has'.1.1 told (omega (arith, inside'))
          (below_more closed (r ∷ []) (r + 1) later (omega arith, tt)) (numbers_both ps (record { number = r; needed = needed } ∷ []) ∙ ap (λ l. l ++ r ∷ []) numbered) (size1 ∙ wide) rel1
          (λ ps2 env2 regs2 c2 numbered2 wide2 rel2. let there : pc + 1 + length (marks_code names (r + 1)) ≡ pc + suc (length (marks_code names (r + 1))) = omega arith in
          at_place S ps2 n (pc + 1 + length (marks_code names (r + 1))) (pc + suc (length (marks_code names (r + 1)))) opened _ regs2 c2 there
          (goes' ps2 env2 regs2 c2 (numbered2 ∙ append_assoc closed (r ∷ []) (closed_numbers names (r + 1))) wide2 rel2))))

module _ (S : Setting) (back : ℕ) where
  pub local_goes : (line : ℕ) (names : List Declared) (es : Exps) → StatLaw S back (Local line names es)
  local_goes line names es n closing closed t j pc named loops reach k fewer has placed titles inside under clear plain jumps done ps env regs c opened s st standing =
      go_left S n s (tree.at (collect (for_declaration line names) [] es) (of_tree S ps env c) k) _ st
      (exps_same S ps es (for_declaration line names) (Some (length names)) t 0 j line n pc opened [] env regs c k fewer tt
      (subst (λ r. HasAt S pc (exps_code S.code.own.constants es (Some (length names)) r j line)) (sym flat) (has_front S pc code (marks_code names t) has)) placed.1.1.1 (subst (λ u. ArePlaced S es u j) (sym standing.size) placed.0)
      (subst (λ r. pc + length (exps_code S.code.own.constants es (Some (length names)) r j line) < length S.code.own.code) (sym flat) (omega (arith, inside))) refl (λ i lt. absurd (omega arith))
      (let size = standing.size in omega (arith, size)) (let size = standing.size in omega (arith, size, standing.rel.fits)) placed.1.0 standing.rel
      (λ vs env1 regs1 c1 opened1 af listed. declared vs env1 regs1 c1 opened1 (af.size ∙ standing.size) af.rel listed))
    where
      code : List Coded
      code = exps_code S.code.own.constants es (Some (length names)) t j line

      flat : t + 0 ≡ t
      flat = omega arith

      there : pc + length (exps_code S.code.own.constants es (Some (length names)) (t + 0) j line) ≡ pc + length code
      there = ap (λ r. pc + length (exps_code S.code.own.constants es (Some (length names)) r j line)) flat

      declared : (vs env1 regs1 : List Value) (c1 : Captured) (opened1 : ℕ) → length env1 ≡ t → Rel S.hidden S.code.own.stack ps env1 c1 regs1 → Holds t (0 + length names) vs regs1
          → Agree S n (tree.at (collect (for_declaration line names) vs EndExps) (of_tree S ps env1 c1) k) (before (of_code S ps (pc + length (exps_code S.code.own.constants es (Some (length names)) (t + 0) j line)) regs1 opened1) c1)
      declared vs env1 regs1 c1 opened1 size1 rel1 held =
          let sum = length-append env1 (fitted (length names) vs) in
          let wide = length_fitted (length names) vs in
          go_left S n _ (tree.at (marks_closed (length env1) names complete) (of_tree S ps (env1 ++ fitted (length names) vs) c1) k) _ refl
          (subst (λ q. Agree S n (tree.at (marks_closed (length env1) names complete) (of_tree S ps (env1 ++ fitted (length names) vs) c1) k) (before (of_code S ps q regs1 opened1) c1)) (sym there)
          (marks_goes S names (length env1) t n (t + length names) (pc + length code) opened1 closed ps (env1 ++ fitted (length names) vs) regs1 c1 k size1 (omega arith) (has_back S pc code (marks_code names t) has) titles
          (omega (arith, inside)) under standing.numbered (omega (arith, sum, wide, size1)) (rel_declared S.hidden S.code.own.stack t (length names) ps env1 regs1 vs c1 size1 placed.1.1.0 clear (λ i lt. held i (omega (arith, lt))) rel1)
          (λ ps2 env2 regs2 c2 numbered2 wide2 rel2. at_place S ps2 n (pc + length code + length (marks_code names t)) (pc + (length code + length (marks_code names t))) opened1 _ regs2 c2 (omega arith)
          (done n (omega arith) ps2 env2 regs2 c2 opened1 (record { numbered = numbered2; size = wide2; rel = rel2 })))))

  pub call_goes : (line : ℕ) (e : Exp) → StatLaw S back (CallStat line e)
  call_goes line e n closing closed t j pc named loops reach k fewer has placed titles inside under clear plain jumps done ps env regs c opened s st standing =
      let size = standing.size in
      go_left S n s (tree.at (evaluate e) (of_tree S ps env c) (dropped ∷ k)) _ st
      (open_same S ps e placed.0 1 t j n pc opened env regs c (dropped ∷ k) fewer has (lit< tt) (subst (λ u. IsPlaced S e u j) (sym standing.size) placed.1.0) inside (omega (arith, size)) placed.1.1 standing.rel
      (λ vs env1 regs1 c1 opened1 af filled. go_left S n _ (tree.at complete (of_tree S ps env1 c1) k) _ refl
      (done n (omega arith) ps env1 regs1 c1 opened1 (record { numbered = standing.numbered; size = af.size ∙ standing.size; rel = af.rel }))))

  pub function_goes : (line : ℕ) (name : Name) (body : Body) → StatLaw S back (LocalFunction line name body)
  function_goes line name body n closing closed t j pc named loops reach k fewer has placed titles inside under clear plain jumps done ps env regs c opened s st standing =
      local_function_goes S ps n t j pc opened body s env regs c k st has fewer placed.0 placed.1.0 inside standing.size placed.1.1 clear standing.rel
      (λ env1 regs1 c1 size1 rel1. done n (omega arith) ps env1 regs1 c1 opened (record { numbered = standing.numbered; size = size1; rel = rel1 }))
