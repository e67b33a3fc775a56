-- Assignments: the tables and keys of the targets, the values, and the stores from right to left.
use Rattle.std.proofs.Common.{◌≡◌, ◌≢◌, ℕ, zero, suc, ◌+◌, ◌*◌, ◌<◌, ◌≤◌, ◌^◌, Bool, true, false, List, [], ◌∷◌, ◌++◌, length, reverse, Option, Some, None, refl, sym, ap, ap₂, subst, ◌∙◌, ◌⊎◌, inl, inr, ⊎_elim, arith, append_assoc, length-append}
use Rattle.std.proofs.lemmas.List.{reverse-append}
use borrow.Author.Tests.{lt-ltb}
use Rattle.int_core.specs.Value.{Value, nth, write}
use Rattle.int_core.specs.Ask.{writes_upvalue, Captured, values_in, goes_on}
use Rattle.tree_core.specs.declared.name.Name.{Name}
use Rattle.tree_core.specs.declared.name.Place.TheVariants.{Local as LocalPlace}
use Rattle.tree_core.specs.Tree.{Assign, Exp, Var, Index, Exps, EndExps, MoreExps}
use Rattle.tree_activation.specs.Work.{complete, collect, evaluate, give, aim, store, listed, Target, to_local, to_upvalue, to_field, for_assignment, Work, Pending, State}
use Rattle.tree_activation.specs.Work as tree
use Rattle.tree_activation.specs.Activation.{step}
use Rattle.tree_activation.specs.Asking.{first}
use Rattle.tree_activation.specs.Statements.{paired, aims_at_name}
use Rattle.code_core.specs.declared.opcode.Opcode.TheVariants.{SetUpval}
use Rattle.code_core.specs.Instruction.{abc}
use Rattle.code_core.specs.Check.{at}
use Rattle.code_core.proofs.FieldLemmas.{opcode_of-abc, a_of-abc, b_of-abc}
use Rattle.machine_core.specs.Text as text
use Rattle.machine_core.specs.Text.{Text, read_register, write_upvalue, own, quick}
use Rattle.machine_core.specs.InstructionRows.{next}
use Rattle.machine_core.specs.Talk.{talk_step, says_so, before, amid}
use Rattle.list_laws.proofs.Items.{append_nil}
use Rattle.list_laws.proofs.Values.{nth_write_same, nth_write_other, length_write, write_more}
use Rattle.code_of.specs.Coded.{Coded}
use Rattle.code_of.specs.Expressions.{made_in, count, exps_code, made_by, exp_code}
use Rattle.code_of.specs.Operands.{is_direct, assigned, second_assigned}
use Rattle.code_of.proofs.Operands.{assigned_is, second_is}
use Rattle.code_of.specs.Parts.{targets_code, store_code, stores_code, direct_code, first_direct, first_field, stored_code, kept_code, store_by, assign_by, target_code, two_code, first_two, two_by}
use Rattle.code_of.specs.Stores.{FieldKey, stores_field}
use Rattle.code_of.proofs.Stores.{stores_field_is}
use Rattle.code_of.specs.Targets.{single_store}
use Rattle.code_of.proofs.Targets.{single_store_is}
use Rattle.code_of.specs.Rooms.{room_of_direct, room_of_assigned, room_of_first, room_of, room_of_target, room_of_two}
use Rattle.exp_laws.proofs.Registers.{Among, none_among, hides_write, Rel, HeldBelow, Ascends}
use Rattle.exp_laws.specs.Setting.{Hidden, Setting}
use Rattle.exp_laws.proofs.Talking.{Agree, go_left, go_right, of_tree, of_code}
use Rattle.exp_laws.proofs.Placing.{HasAt, has_front, has_back, here_abc}
use Rattle.exp_laws.specs.Placed.{NameIsPlaced, IsPlaced, ArePlaced}
use Rattle.exp_laws.proofs.Lists.{Holds}
use Rattle.exp_laws.proofs.Going.{next_there}
use Rattle.exp_laws.proofs.Asking.{quick_alike}
use Rattle.exp_laws.proofs.Exps.{exps_same, exp_same}
use Rattle.exp_laws.proofs.Rooms.{room_some}
use Rattle.exp_laws.proofs.Direct.{direct_same}
use Rattle.exp_laws.proofs.Steps.{row_step, own_step, go_step, move_step}
use Rattle.stat_laws.proofs.Standing.{Standing, GoesOn}
use Rattle.stat_laws.proofs.Blocks.{StatLaw}
use Rattle.stat_laws.specs.Scoped.{KeptIsPlaced, StoreIsPlaced, AssignIsPlaced, IsTarget, TargetsArePlaced, TwoIsPlaced}
use Rattle.stat_laws.proofs.FieldStores.{field_goes}
use Rattle.stat_laws.proofs.Targets.{store_to, Stands, stands_still, AllAimed, all_still, aim_goes, target_aims}
use Rattle.stat_laws.proofs.GlobalStores.{waiting_goes, local_goes}

pub rel_assigned : (hidden : Hidden) (stack n : ℕ) (v : Value) (ps : List Pending) (env regs : List Value) (c : Captured) → n < length env → (Among n hidden.integers → ⊥) → Rel hidden stack ps env c regs → Rel hidden stack ps (write n v env) c (write n v regs)
rel_assigned hidden stack n v ps env regs c h other rel =
    let same = length_write n v env h in
    let more = write_more n v regs in
    record {
      agree = λ r lr. by r (omega (arith, same, lr)) (split r n);
      held = subst (HeldBelow c.held) (sym same) rel.held;
      hides = hides_write hidden env c.held v n h other rel.hides;
      ascends = subst (Ascends 0 ps) (sym same) rel.ascends;
      fits = omega (arith, same, rel.fits);
      room = omega (arith, more, rel.room);
    }
  where
    split : (r n : ℕ) → (r ≡ n) ⊎ (r ≢ n)
    split zero zero = inl refl
    split zero (suc n) = inr (λ e. absurd (omega (arith, e)))
    split (suc r) zero = inr (λ e. absurd (omega (arith, e)))
    split (suc r) (suc n) = ⊎_elim (λ e. inl (ap suc e)) (λ e. inr (λ d. e (omega (arith, d)))) (split r n)

    by : (r : ℕ) → r < length env → (r ≡ n) ⊎ (r ≢ n) → nth (write n v env) r ≡ nth (write n v regs) r
    by r lr (inl e) = subst (λ q. nth (write n v env) q ≡ nth (write n v regs) q) (sym e) (nth_write_same n v env ∙ sym (nth_write_same n v regs))
    by r lr (inr e) = nth_write_other n v env r e ∙ rel.agree r lr ∙ sym (nth_write_other n v regs r e)

module _ (S : Setting) (back : ℕ) where
  -- SETUPVAL of register v
  set_step : (v u pc opened : ℕ) (ps : List Pending) (regs : List Value) (c : Captured) → at S.code pc ≡ Some (abc SetUpval v u 0 false) → v < 2 ^ 8 → u < 2 ^ 8 → v < length regs
      → talk_step S.code (before (of_code S ps pc regs opened) c) ≡ says_so (writes_upvalue u (nth regs v)) S.code (of_code S ps pc regs opened) c (λ x b d. amid next ((nth regs v ∷ []) ++ values_in x.reply) b d)
  set_step v u pc opened ps regs c here v_fits u_fits room =
      row_step S.code (abc SetUpval v u 0 false) SetUpval (own (read_register v) (λ x _. quick (write_upvalue u (text.read x)) (λ _. next))) (of_code S ps pc regs opened) c here (opcode_of-abc SetUpval v u 0 false)
      (ap₂ (λ b d. own (read_register d) (λ x _. quick (write_upvalue b (text.read x)) (λ _. next))) (b_of-abc SetUpval v u 0 false v_fits u_fits) (a_of-abc SetUpval v u 0 false v_fits))
      ∙ own_step S.code (read_register v) (λ x _. quick (write_upvalue u (text.read x)) (λ _. next)) [] (of_code S ps pc regs opened) c (lt-ltb v (length regs) room)

  -- both go on behind some stores: the registers above the locals are as they were
  abbrev Stored : (n t pc : ℕ) (closed : List ℕ) (ps : List Pending) (regs : List Value) (rest : List (Target × Value)) (k : List Work) → Type 0
  Stored n t pc closed ps regs rest k =
      (env' regs' : List Value) (c' : Captured) (opened' : ℕ) → Standing S t closed ps env' c' regs' → ((q : ℕ) → t ≤ q → q < S.code.own.stack → nth regs' q ≡ nth regs q) → Agree S n (tree.at (store rest) (of_tree S ps env' c') k) (before (of_code S ps pc regs' opened') c')

  store_one : (x : Target) (s : FieldKey) (line r v n t pc : ℕ) (closed : List ℕ) (ps : List Pending) (env regs : List Value) (c : Captured) (opened : ℕ) (w : Value) (rest : List (Target × Value)) (k : List Work) → Stands S.code.own.constants S.hidden x s r t regs → t ≤ v → r + 1 < S.code.own.stack → v < S.code.own.stack
      → HasAt S pc (store_to x s line r v) → pc + length (store_to x s line r v) < length S.code.own.code → Standing S t closed ps env c regs → nth regs v ≡ w → Stored n t (pc + length (store_to x s line r v)) closed ps regs rest k
      → Agree S n (tree.at (store ((x, w) ∷ rest)) (of_tree S ps env c) k) (before (of_code S ps pc regs opened) c)
  store_one (to_local m) s line r v n t pc closed ps env regs c opened w rest k ok le two room has inside st eq goes =
      let there = next_there S (pc + 1) inside in
      let size = st.size in
      go_left S n _ (tree.at (store rest) (of_tree S ps (write m w env) c) k) _ refl
      (go_right S n _ _ (before (of_code S ps (pc + 1) (write m w regs) opened) c)
      (move_step S.code (of_code S ps pc regs opened) c there.0 there.1 m v has.0 (omega (arith, size, ok.0, st.rel.fits, S.small)) (omega (arith, room, S.small)) (omega (arith, room, st.rel.room)) (omega (arith, size, ok.0, st.rel.fits, st.rel.room))
      ∙ ap (λ x. goes_on (before (of_code S ps (pc + 1) (write m x regs) opened) c)) eq)
      (goes (write m w env) (write m w regs) c opened (record { numbered = st.numbered; size = length_write m w env (omega (arith, size, ok.0)) ∙ size; rel = rel_assigned S.hidden S.code.own.stack m w ps env regs c (omega (arith, size, ok.0)) ok.1 st.rel })
      (λ q lo hi. nth_write_other m w regs q (λ e. absurd (omega (arith, e, lo, ok.0))))))
  store_one (to_upvalue l u) s line r v n t pc closed ps env regs c opened w rest k ok le two room has inside st eq goes =
      let there = next_there S (pc + 1) inside in
      let size = st.size in
      quick_alike S ps n _ _ (writes_upvalue u w) (writes_upvalue u (nth regs v)) l pc opened S.code.own.stack env regs c k (λ _. store rest) next (nth regs v ∷ []) refl
      (set_step v u pc opened ps regs c has.0 (omega (arith, room, S.small)) ok (omega (arith, room, st.rel.room)))
      (λ m lt. (refl, sym eq)) refl st.rel (here_abc S SetUpval v u 0 false l pc [] has)
      (λ reply fits env1 regs1 c1 af. go_right S n _ _ (before (of_code S ps (pc + 1) regs1 opened) c1)
      (go_step S.code 1 there.0 ((nth regs v ∷ []) ++ values_in reply) (of_code S ps pc regs1 opened) c1 there.1)
      (goes env1 regs1 c1 opened (record { numbered = st.numbered; size = af.size ∙ size; rel = af.rel }) (λ q lo hi. af.keeps q (omega (arith, size, lo)) hi)))
  store_one (to_field l o key) s line r v n t pc closed ps env regs c opened w rest k ok le two room has inside st eq goes =
      let size = st.size in
      waiting_goes S ps s l r v S.code.own.stack n pc opened o key w env regs c rest k ok.1 has inside two room st.rel ok.0 eq
      (λ env1 regs1 c1 af. goes env1 regs1 c1 opened (record { numbered = st.numbered; size = af.size ∙ size; rel = af.rel }) (λ q lo hi. af.keeps q (omega (arith, size, lo)) hi))

  abbrev others : List Value → List Value
  others vs = elim vs [ [] ↦ [] | _ ∷ ws ↦ ws ]

  nth_others : (vs : List Value) (i : ℕ) → nth (others vs) i ≡ nth vs (suc i)
  nth_others [] i = refl
  nth_others (x ∷ vs) i = refl

  list_so : (x : Target) (xs : List Target) (vs : List Value) (rest : List (Target × Value)) → reverse (paired (x ∷ xs) vs) ++ rest ≡ reverse (paired xs (others vs)) ++ ((x, first vs) ∷ rest)
  list_so x xs vs rest = ap (λ l. l ++ rest) (reverse-append ((x, first vs) ∷ []) (paired xs (others vs))) ∙ append_assoc (reverse (paired xs (others vs))) ((x, first vs) ∷ []) rest

  -- from right to left
  stores_goes : (ts : Exps) (xs : List Target) (r v n t pc : ℕ) (closed : List ℕ) (ps : List Pending) (env regs : List Value) (c : Captured) (opened : ℕ) (vs : List Value) (rest : List (Target × Value)) (k : List Work)
      → AllAimed S ts r t xs regs → t ≤ r → r + 2 * count ts ≤ v → v + count ts ≤ S.code.own.stack
      → HasAt S pc (stores_code S.code.own.constants ts r v) → pc + length (stores_code S.code.own.constants ts r v) < length S.code.own.code → Standing S t closed ps env c regs → Holds v (count ts) vs regs → Stored n t (pc + length (stores_code S.code.own.constants ts r v)) closed ps regs rest k
      → Agree S n (tree.at (store (reverse (paired xs vs) ++ rest)) (of_tree S ps env c) k) (before (of_code S ps pc regs opened) c)
  stores_goes EndExps [] r v n t pc closed ps env regs c opened vs rest k all le above room has inside st held goes =
      let there : pc + 0 ≡ pc = omega arith in
      subst (λ q. Agree S n (tree.at (store rest) (of_tree S ps env c) k) (before (of_code S ps q regs opened) c)) there (goes env regs c opened st (λ q lo hi. refl))
  stores_goes EndExps (x ∷ xs) r v n t pc closed ps env regs c opened vs rest k all le above room has inside st held goes = absurd all
  stores_goes (MoreExps e ts) [] r v n t pc closed ps env regs c opened vs rest k all le above room has inside st held goes = absurd all
  stores_goes (MoreExps e ts) (x ∷ xs) r v n t pc closed ps env regs c opened vs rest k all le above room has inside st held goes =
      let tail = stores_code S.code.own.constants ts (r + 2) (v + 1) in
      let head = store_code S.code.own.constants e r v in
      let sum = length-append tail head in
      let size = ap length (all.0.stores v) in
      let here : v + 0 ≡ v = omega arith in
      let there : pc + length tail + length (store_to x all.0.key all.0.line r v) ≡ pc + length (tail ++ head) = omega (arith, sum, size) in
      subst (λ z. Agree S n (tree.at (store z) (of_tree S ps env c) k) (before (of_code S ps pc regs opened) c)) (sym (list_so x xs vs rest))
      (stores_goes ts xs (r + 2) (v + 1) n t pc closed ps env regs c opened (others vs) ((x, first vs) ∷ rest) k all.1 (omega arith) (omega (arith, above)) (omega (arith, room)) (has_front S pc tail head has) (omega (arith, inside, sum)) st
      (λ i lt. let at : v + 1 + i ≡ v + suc i = omega arith in ap (nth regs) at ∙ held (suc i) (omega arith) ∙ sym (nth_others vs i))
      (λ env1 regs1 c1 opened1 st1 same. store_one x all.0.key all.0.line r v n t (pc + length tail) closed ps env1 regs1 c1 opened1 (first vs) rest k
      (stands_still S.code.own.constants S.hidden x all.0.key r t regs regs1 (same r le (omega (arith, above, room))) (same (r + 1) (omega (arith, le)) (omega (arith, above, room))) all.0.stands) (omega (arith, le, above)) (omega (arith, above, room)) (omega (arith, room))
      (subst (HasAt S (pc + length tail)) (all.0.stores v) (has_back S pc tail head has)) (omega (arith, inside, sum, size)) st1
      (same v (omega (arith, le, above)) (omega (arith, room)) ∙ ap (nth regs) (sym here) ∙ held 0 (omega arith))
      (λ env2 regs2 c2 opened2 st2 same2. subst (λ q. Agree S n (tree.at (store rest) (of_tree S ps env2 c2) k) (before (of_code S ps q regs2 opened2) c2)) (sym there)
      (goes env2 regs2 c2 opened2 st2 (λ q lo hi. same2 q lo hi ∙ same q lo hi)))))

  -- each target by its value
  stored_goes : (targets es : Exps) (n t j line pc : ℕ) (closed : List ℕ) (ps : List Pending) (env regs : List Value) (c : Captured) (opened : ℕ) (s : State) (k : List Work)
      → n ≤ S.bound → HasAt S pc (stored_code S.code.own.constants targets es t j line) → KeptIsPlaced S None targets es t j → pc + length (stored_code S.code.own.constants targets es t j line) < length S.code.own.code
      → GoesOn S n t closed complete k (pc + length (stored_code S.code.own.constants targets es t j line)) → step s ≡ goes_on (tree.at (aim [] targets es) (of_tree S ps env c) k) → Standing S t closed ps env c regs
      → Agree S n s (before (of_code S ps pc regs opened) c)
  stored_goes targets es n t j line pc closed ps env regs c opened s k fewer has placed inside done st standing =
      let size = standing.size in
      go_left S n s (tree.at (aim [] targets es) (of_tree S ps env c) k) _ st
      (aim_goes S ps targets t t n j pc opened es [] env regs c k fewer (has_front S pc aims (values ++ stores) has) placed.0 (omega (arith, inside, sum)) size (omega arith) (omega (arith, room)) standing.rel
      (λ xs env1 regs1 c1 opened1 af1 all.
      exps_same S ps es (for_assignment xs) (Some (count targets)) v 0 (j + made_in targets) line n (pc + length aims) opened1 [] env1 regs1 c1 k fewer tt
      (subst (λ r. HasAt S (pc + length aims) (exps_code S.code.own.constants es (Some (count targets)) r (j + made_in targets) line)) (sym flat) (has_front S (pc + length aims) values stores at_values)) placed.1.1.1.1
      (subst (λ u. ArePlaced S es u (j + made_in targets)) (sym (af1.size ∙ size)) placed.1.0)
      (subst (λ r. pc + length aims + length (exps_code S.code.own.constants es (Some (count targets)) r (j + made_in targets) line) < length S.code.own.code) (sym flat) (omega (arith, inside, sum))) refl (λ i lt. absurd (omega arith))
      (omega (arith, size, af1.size)) (omega (arith, room)) placed.1.1.0 af1.rel
      (λ vs env2 regs2 c2 opened2 af2 filled. subst (λ q. Agree S n (tree.at (collect (for_assignment xs) vs EndExps) (of_tree S ps env2 c2) k) (before (of_code S ps q regs2 opened2) c2)) (sym there)
      (go_left S n _ (tree.at (store (reverse (paired xs vs))) (of_tree S ps env2 c2) k) _ refl
      (subst (λ z. Agree S n (tree.at (store z) (of_tree S ps env2 c2) k) (before (of_code S ps (pc + length aims + length values) regs2 opened2) c2)) (append_nil (reverse (paired xs vs)))
      (stores_goes targets xs t v n t (pc + length aims + length values) closed ps env2 regs2 c2 opened2 vs [] k
      (all_still S targets t t v xs regs1 regs2 (omega arith) (omega arith) (λ q lo hi. af2.keeps q (omega (arith, size, af1.size, lo)) hi) all) (omega arith) (omega arith) room (has_back S (pc + length aims) values stores at_values) (omega (arith, inside, sum))
      (record { numbered = standing.numbered; size = af2.size ∙ af1.size ∙ size; rel = af2.rel }) (λ i lt. filled i (omega (arith, lt)))
      (λ env3 regs3 c3 opened3 st3 same. go_left S n _ (tree.at complete (of_tree S ps env3 c3) k) _ refl
      (subst (λ q. Agree S n (tree.at complete (of_tree S ps env3 c3) k) (before (of_code S ps q regs3 opened3) c3)) end (done n (omega arith) ps env3 regs3 c3 opened3 st3)))))))))
    where
      v : ℕ
      v = t + 2 * count targets

      room : t + 2 * count targets + count targets ≤ S.code.own.stack
      room = placed.1.1.1.0

      aims : List Coded
      aims = targets_code S.code.own.constants targets t j

      values : List Coded
      values = exps_code S.code.own.constants es (Some (count targets)) (t + 2 * count targets) (j + made_in targets) line

      stores : List Coded
      stores = stores_code S.code.own.constants targets t (t + 2 * count targets)

      flat : t + 2 * count targets + 0 ≡ t + 2 * count targets
      flat = omega arith

      sum : length (aims ++ (values ++ stores)) ≡ length aims + (length values + length stores)
      sum = let a = length-append aims (values ++ stores) in let b = length-append values stores in omega (arith, a, b)

      at_values : HasAt S (pc + length aims) (values ++ stores)
      at_values = has_back S pc aims (values ++ stores) has

      there : pc + length aims + length (exps_code S.code.own.constants es (Some (count targets)) (t + 2 * count targets + 0) (j + made_in targets) line) ≡ pc + length aims + length values
      there = ap (λ r. pc + length aims + length (exps_code S.code.own.constants es (Some (count targets)) r (j + made_in targets) line)) flat

      end : pc + length (aims ++ (values ++ stores)) ≡ pc + length aims + length values + length stores
      end = omega (arith, sum)

  -- a local gets the value straight into its register. Both sides write it at the end, so they are like each other again
  direct_goes : (l : ℕ) (name : Name) (e : Exp) (r n t j pc : ℕ) (closed : List ℕ) (ps : List Pending) (env regs : List Value) (c : Captured) (opened : ℕ) (s : State) (k : List Work)
      → name.place ≡ LocalPlace r → is_direct e ≡ true → n ≤ S.bound → HasAt S pc (direct_code S.code.own.constants e r t j) → r < t → (Among r S.hidden.integers → ⊥) → IsPlaced S e t j
      → t + room_of_direct S.code.own.constants e ≤ S.code.own.stack → pc + length (direct_code S.code.own.constants e r t j) < length S.code.own.code
      → GoesOn S n t closed complete k (pc + length (direct_code S.code.own.constants e r t j)) → step s ≡ goes_on (tree.at (aim [] (MoreExps (Var l name) EndExps) (MoreExps e EndExps)) (of_tree S ps env c) k)
      → Standing S t closed ps env c regs → Agree S n s (before (of_code S ps pc regs opened) c)
  direct_goes l name e r n t j pc closed ps env regs c opened s k place direct fewer has low other ok room inside done st standing =
      let size = standing.size in
      let to = for_assignment (to_local r ∷ []) in
      go_left S n s (tree.at (aim [] (MoreExps (Var l name) EndExps) (MoreExps e EndExps)) (of_tree S ps env c) k) _ st
      (go_left S n _ (tree.at (aim (to_local r ∷ []) EndExps (MoreExps e EndExps)) (of_tree S ps env c) k) _ (ap (λ p. aims_at_name l name.text p [] EndExps (MoreExps e EndExps) (of_tree S ps env c) k) place)
      (go_left S n _ (tree.at (collect to [] (MoreExps e EndExps)) (of_tree S ps env c) k) _ refl
      (go_left S n _ (tree.at (evaluate e) (of_tree S ps env c) (listed to [] EndExps ∷ k)) _ refl
      (direct_same S ps e direct r t j n pc opened env regs c (listed to [] EndExps ∷ k) fewer has (subst (λ u. IsPlaced S e u j) (sym size) ok) inside (omega (arith, size)) (omega (arith, low, size, standing.rel.fits)) room standing.rel
      (λ vs env1 regs1 c1 opened1 af one.
      let same = length_write r (first vs) env1 (omega (arith, low, size, af.size)) in
      subst (λ l. Agree S n (tree.at (give l) (of_tree S ps env1 c1) (listed to [] EndExps ∷ k)) (before (of_code S ps (pc + length (direct_code S.code.own.constants e r t j)) (write r (first vs) regs1) opened1) c1)) (sym one)
      (go_left S n _ (tree.at (collect to (first vs ∷ []) EndExps) (of_tree S ps env1 c1) k) _ refl
      (go_left S n _ (tree.at (store ((to_local r, first vs) ∷ [])) (of_tree S ps env1 c1) k) _ refl
      (go_left S n _ (tree.at (store []) (of_tree S ps (write r (first vs) env1) c1) k) _ refl
      (go_left S n _ (tree.at complete (of_tree S ps (write r (first vs) env1) c1) k) _ refl
      (done n (omega arith) ps (write r (first vs) env1) (write r (first vs) regs1) c1 opened1
      (record { numbered = standing.numbered; size = same ∙ af.size ∙ size; rel = rel_assigned S.hidden S.code.own.stack r (first vs) ps env1 regs1 c1 (omega (arith, low, size, af.size)) other af.rel })))))))))))

  -- two values, of which the second one goes straight to a local's register. The tree stores it first too
  two_goes : (l : ℕ) (x : Exp) (name : Name) (e d : Exp) (r n t j pc : ℕ) (closed : List ℕ) (ps : List Pending) (env regs : List Value) (c : Captured) (opened : ℕ) (s : State) (k : List Work)
      → name.place ≡ LocalPlace r → is_direct d ≡ true → n ≤ S.bound → HasAt S pc (two_code S.code.own.constants x e d r t j) → IsTarget S.hidden x → IsPlaced S x t j → t + room_of_target S.code.own.constants x ≤ S.code.own.stack
      → r < t → (Among r S.hidden.integers → ⊥) → IsPlaced S e t (j + made_by x) → IsPlaced S d t (j + made_by x + made_by e) → t + 2 + room_of S.code.own.constants e 2 ≤ S.code.own.stack → t + 3 + room_of_direct S.code.own.constants d ≤ S.code.own.stack
      → pc + length (two_code S.code.own.constants x e d r t j) < length S.code.own.code → GoesOn S n t closed complete k (pc + length (two_code S.code.own.constants x e d r t j))
      → step s ≡ goes_on (tree.at (aim [] (MoreExps x (MoreExps (Var l name) EndExps)) (MoreExps e (MoreExps d EndExps))) (of_tree S ps env c) k) → Standing S t closed ps env c regs → Agree S n s (before (of_code S ps pc regs opened) c)
  two_goes l x name e d r n t j pc closed ps env regs c opened s k place direct fewer has is_target x_ok x_room low other e_ok d_ok e_room d_room inside done st standing =
      let size = standing.size in
      let local = MoreExps (Var l name) EndExps in
      let es = MoreExps e (MoreExps d EndExps) in
      let some = room_some S.code.own.constants e in
      go_left S n s (tree.at (aim [] (MoreExps x local) es) (of_tree S ps env c) k) _ st
      (target_aims S ps x t t n j pc opened local es [] env regs c k fewer (has_front S pc aims (first_value ++ (second_value ++ last_store)) has) is_target x_ok (omega (arith, inside, sum)) size (omega arith) (omega (arith, e_room, some)) x_room standing.rel
      (λ y env1 regs1 c1 opened1 af1 aimed.
      let to = for_assignment (y ∷ to_local r ∷ []) in
      go_left S n _ (tree.at (aim (y ∷ to_local r ∷ []) EndExps es) (of_tree S ps env1 c1) k) _ (ap (λ p. aims_at_name l name.text p (y ∷ []) EndExps es (of_tree S ps env1 c1) k) place)
      (go_left S n _ (tree.at (collect to [] es) (of_tree S ps env1 c1) k) _ refl
      (go_left S n _ (tree.at (evaluate e) (of_tree S ps env1 c1) (listed to [] (MoreExps d EndExps) ∷ k)) _ refl
      (exp_same S ps e (t + 2) (j + made_by x) n (pc + length aims) opened1 env1 regs1 c1 (listed to [] (MoreExps d EndExps) ∷ k) fewer (has_front S (pc + length aims) first_value (second_value ++ last_store) behind_aims)
      (subst (λ u. IsPlaced S e u (j + made_by x)) (sym (af1.size ∙ size)) e_ok) (omega (arith, inside, sum)) (omega (arith, size, af1.size)) e_room af1.rel
      (λ vs env2 regs2 c2 opened2 af2 kept one. go_left S n _ (tree.at (collect to (first vs ∷ []) (MoreExps d EndExps)) (of_tree S ps env2 c2) k) _ refl
      (go_left S n _ (tree.at (evaluate d) (of_tree S ps env2 c2) (listed to (first vs ∷ []) EndExps ∷ k)) _ refl
      (direct_same S ps d direct r (t + 3) (j + made_by x + made_by e) n (pc + length aims + length first_value) opened2 env2 regs2 c2 (listed to (first vs ∷ []) EndExps ∷ k) fewer (has_front S (pc + length aims + length first_value) second_value last_store behind_first)
      (subst (λ u. IsPlaced S d u (j + made_by x + made_by e)) (sym (af2.size ∙ af1.size ∙ size)) d_ok) (omega (arith, inside, sum)) (omega (arith, size, af1.size, af2.size)) (omega (arith, low, size, standing.rel.fits)) d_room af2.rel
      (λ ws env3 regs3 c3 opened3 af3 given.
      let sized : length env3 ≡ t = af3.size ∙ af2.size ∙ af1.size ∙ size in
      let w = first ws in
      let written = write r w regs3 in
      let stays : (q : ℕ) → t ≤ q → q < t + 2 → nth written q ≡ nth regs1 q = λ q lo hi.
      nth_write_other r w regs3 q (λ h. absurd (omega (arith, h, lo, low))) ∙ af3.keeps q (omega (arith, size, af1.size, af2.size, lo)) (omega (arith, hi)) ∙ af2.keeps q (omega (arith, size, af1.size, lo)) hi in
      let long : length last_store ≡ length (store_to y aimed.key aimed.line t (t + 2)) = ap length (aimed.stores (t + 2)) in
      subst (λ xs. Agree S n (tree.at (give xs) (of_tree S ps env3 c3) (listed to (first vs ∷ []) EndExps ∷ k)) (before (of_code S ps (pc + length aims + length first_value + length second_value) written opened3) c3)) (sym given)
      (go_left S n _ (tree.at (collect to (first vs ∷ w ∷ []) EndExps) (of_tree S ps env3 c3) k) _ refl
      (go_left S n _ (tree.at (store ((to_local r, w) ∷ (y, first vs) ∷ [])) (of_tree S ps env3 c3) k) _ refl
      (go_left S n _ (tree.at (store ((y, first vs) ∷ [])) (of_tree S ps (write r w env3) c3) k) _ refl
      (store_one y aimed.key aimed.line t (t + 2) n t (pc + length aims + length first_value + length second_value) closed ps (write r w env3) written c3 opened3 (first vs) [] k
      (stands_still S.code.own.constants S.hidden y aimed.key t t regs1 written (stays t (omega arith) (omega arith)) (stays (t + 1) (omega arith) (omega arith)) aimed.stands) (omega arith) (omega (arith, e_room, some)) (omega (arith, e_room, some))
      (subst (HasAt S (pc + length aims + length first_value + length second_value)) (aimed.stores (t + 2)) behind_second) (omega (arith, inside, sum, long))
      (record { numbered = standing.numbered; size = length_write r w env3 (omega (arith, low, sized)) ∙ sized; rel = rel_assigned S.hidden S.code.own.stack r w ps env3 regs3 c3 (omega (arith, low, sized)) other af3.rel })
      (nth_write_other r w regs3 (t + 2) (λ h. absurd (omega (arith, h, low))) ∙ af3.keeps (t + 2) (omega (arith, size, af1.size, af2.size)) (omega arith) ∙ kept)
      (λ env4 regs4 c4 opened4 st4 same. go_left S n _ (tree.at complete (of_tree S ps env4 c4) k) _ refl
      (subst (λ q. Agree S n (tree.at complete (of_tree S ps env4 c4) k) (before (of_code S ps q regs4 opened4) c4)) (omega (arith, sum, long)) (done n (omega arith) ps env4 regs4 c4 opened4 st4))))))))))))))))
    where
      aims : List Coded
      aims = target_code S.code.own.constants x t j

      first_value : List Coded
      first_value = exp_code S.code.own.constants e (t + 2) (j + made_by x) 2

      second_value : List Coded
      second_value = direct_code S.code.own.constants d r (t + 3) (j + made_by x + made_by e)

      last_store : List Coded
      last_store = store_code S.code.own.constants x t (t + 2)

      behind_aims : HasAt S (pc + length aims) (first_value ++ (second_value ++ last_store))
      behind_aims = has_back S pc aims (first_value ++ (second_value ++ last_store)) has

      behind_first : HasAt S (pc + length aims + length first_value) (second_value ++ last_store)
      behind_first = has_back S (pc + length aims) first_value (second_value ++ last_store) behind_aims

      behind_second : HasAt S (pc + length aims + length first_value + length second_value) last_store
      behind_second = has_back S (pc + length aims + length first_value) second_value last_store behind_first

      sum : length (aims ++ (first_value ++ (second_value ++ last_store))) ≡ length aims + (length first_value + (length second_value + length last_store))
      sum = let a = length-append aims (first_value ++ (second_value ++ last_store)) in let b = length-append first_value (second_value ++ last_store) in let q = length-append second_value last_store in omega (arith, a, b, q)

  pub assign_goes : (line : ℕ) (targets es : Exps) → StatLaw S back (Assign line targets es)
  assign_goes line targets es n closing closed t j pc named loops reach k fewer has placed titles inside under clear plain jumps done ps env regs c opened s st standing =
      by (assigned targets es) refl has placed inside done
    where
      by : (o : Option ℕ) → assigned targets es ≡ o → HasAt S pc (assign_by S.code.own.constants o targets es t j line) → AssignIsPlaced S o targets es t j
          → pc + length (assign_by S.code.own.constants o targets es t j line) < length S.code.own.code → GoesOn S n t closed complete k (pc + length (assign_by S.code.own.constants o targets es t j line))
          → Agree S n s (before (of_code S ps pc regs opened) c)
      by None is has placed inside done = by_two (second_assigned targets es) refl has placed inside done
        where
          by_two : (o : Option ℕ) → second_assigned targets es ≡ o → HasAt S pc (two_by S.code.own.constants o targets es t j line) → TwoIsPlaced S o targets es t j
              → pc + length (two_by S.code.own.constants o targets es t j line) < length S.code.own.code → GoesOn S n t closed complete k (pc + length (two_by S.code.own.constants o targets es t j line))
              → Agree S n s (before (of_code S ps pc regs opened) c)
          by_two None is has placed inside done = by_field (stores_field targets es) refl has placed inside done
            where
              by_field : (b : Bool) → stores_field targets es ≡ b → HasAt S pc (store_by S.code.own.constants b targets es t j line) → StoreIsPlaced S b targets es t j
                  → pc + length (store_by S.code.own.constants b targets es t j line) < length S.code.own.code → GoesOn S n t closed complete k (pc + length (store_by S.code.own.constants b targets es t j line))
                  → Agree S n s (before (of_code S ps pc regs opened) c)
              by_field false is has placed inside done = by_store (single_store S.code.own.constants targets es) refl has placed inside done
                where
                  by_store : (o : Option Coded) → single_store S.code.own.constants targets es ≡ o → HasAt S pc (kept_code S.code.own.constants o targets es t j line) → KeptIsPlaced S o targets es t j
                      → pc + length (kept_code S.code.own.constants o targets es t j line) < length S.code.own.code → GoesOn S n t closed complete k (pc + length (kept_code S.code.own.constants o targets es t j line))
                      → Agree S n s (before (of_code S ps pc regs opened) c)
                  by_store None is has placed inside done = stored_goes targets es n t j line pc closed ps env regs c opened s k fewer has placed inside done st standing
                  by_store (Some x) is has placed inside done =
                      let form = single_store_is S.code.own.constants targets es x is in
                      let size = standing.size in
                      let target = subst (λ z. ArePlaced S z t j) form.target placed.0 in
                      let value = subst (λ z. ArePlaced S z t (j + made_in targets)) form.values placed.1 in
                      let whole = MoreExps (Var form.line form.name) EndExps in
                      let alone = MoreExps form.value EndExps in
                      go_left S n s (tree.at (aim [] whole alone) (of_tree S ps env c) k) _ (st ∙ ap₂ (λ x y. goes_on (tree.at (aim [] x y) (of_tree S ps env c) k)) form.target form.values)
                      (local_goes S ps form.line form.name form.value form.constant form.field x t n (j + made_in targets) pc opened env regs c k form.is form.short form.store has (subst (λ m. NameIsPlaced S form.name.place form.name.text m) (sym size) target.0)
                      (subst (λ m. IsPlaced S form.value m (j + made_in targets)) (sym size) value.0) inside (omega (arith, size)) standing.rel
                      (λ env1 regs1 c1 o1 af. go_left S n _ (tree.at complete (of_tree S ps env1 c1) k) _ refl
                      (done n (omega arith) ps env1 regs1 c1 o1 (record { numbered = standing.numbered; size = af.size ∙ size; rel = af.rel }))))
              by_field true is has placed inside done =
                  let form = stores_field_is targets es is in
                  let after = j + made_in targets in
                  let size = standing.size in
                  let target = subst (λ z. ArePlaced S z t j) form.target placed.0 in
                  let value = subst (λ z. ArePlaced S z t after) form.values placed.1.0 in
                  let code = λ (x y : Exps). first_field S.code.own.constants x y t j after in
                  let whole = MoreExps (Index form.line form.object form.key) EndExps in
                  let alone = MoreExps form.value EndExps in
                  let same : code targets es ≡ code whole alone = ap₂ code form.target form.values in
                  let room = ap₂ (λ x y. room_of_first S.code.own.constants x y) form.target form.values in
                  let long = ap length same in
                  go_left S n s (tree.at (aim [] whole alone) (of_tree S ps env c) k) _ (st ∙ ap₂ (λ x y. goes_on (tree.at (aim [] x y) (of_tree S ps env c) k)) form.target form.values)
                  (field_goes S ps form.line form.object form.key form.value t n j after pc opened env regs c k fewer (subst (HasAt S pc) same has) (subst (λ m. IsPlaced S (Index form.line form.object form.key) m j) (sym size) target.0)
                  (subst (λ m. IsPlaced S form.value m after) (sym size) value.0) (omega (arith, inside, long)) (omega (arith, size)) (omega (arith, room, placed.1.1)) standing.rel
                  (λ env1 regs1 c1 o1 af. go_left S n _ (tree.at complete (of_tree S ps env1 c1) k) _ refl
                  (subst (λ q. Agree S n (tree.at complete (of_tree S ps env1 c1) k) (before (of_code S ps (pc + q) regs1 o1) c1)) long
                  (done n (omega arith) ps env1 regs1 c1 o1 (record { numbered = standing.numbered; size = af.size ∙ size; rel = af.rel })))))
          by_two (Some r) is has placed inside done =
              let form = second_is targets es r is in
              let both = MoreExps form.target (MoreExps (Var form.line form.name) EndExps) in
              let values = MoreExps form.first (MoreExps form.second EndExps) in
              let code = λ (x y : Exps). first_two S.code.own.constants x y r t j in
              let same : code targets es ≡ code both values = ap₂ code form.targets_are form.values in
              let room = ap₂ (λ x y. room_of_two S.code.own.constants x y) form.targets_are form.values in
              let long = ap length same in
              let numbered : j + made_in targets ≡ j + made_by form.target = let all = ap made_in form.targets_are in omega (arith, all) in
              let target = subst (λ z. TargetsArePlaced S z t t j) form.targets_are placed.0 in
              let value = subst (λ m. ArePlaced S values t m) numbered (subst (λ z. ArePlaced S z t (j + made_in targets)) form.values placed.1.1.1.0) in
              two_goes form.line form.target form.name form.first form.second r n t j pc closed ps env regs c opened s k form.place form.direct fewer (subst (HasAt S pc) same has) target.0 target.1.0 target.1.1.0
              placed.1.0 (none_among r S.hidden.integers placed.1.1.0) value.0 value.1.0 (omega (arith, room, placed.1.1.1.1)) (omega (arith, room, placed.1.1.1.1)) (omega (arith, inside, long))
              (subst (λ m. GoesOn S n t closed complete k (pc + m)) long done)
              (st ∙ ap₂ (λ x y. goes_on (tree.at (aim [] x y) (of_tree S ps env c) k)) form.targets_are form.values) standing
      by (Some r) is has placed inside done =
          let form = assigned_is targets es r is in
          let from = j + made_in targets in
          let all = subst (λ z. ArePlaced S z t from) form.values placed.1.1.0 in
          direct_goes form.line form.name form.value r n t from pc closed ps env regs c opened s k form.place form.direct fewer (subst (λ z. HasAt S pc (first_direct S.code.own.constants z r t from)) form.values has)
          placed.0 (none_among r S.hidden.integers placed.1.0) all.0 (subst (λ z. t + room_of_assigned S.code.own.constants z ≤ S.code.own.stack) form.values placed.1.1.1)
          (subst (λ z. pc + length (first_direct S.code.own.constants z r t from) < length S.code.own.code) form.values inside)
          (subst (λ z. GoesOn S n t closed complete k (pc + length (first_direct S.code.own.constants z r t from))) form.values done)
          (st ∙ ap₂ (λ x y. goes_on (tree.at (aim [] x y) (of_tree S ps env c) k)) form.target form.values) standing
