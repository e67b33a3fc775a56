-- A chain of `..`: its operands are evaluated from the left, each into its register, and joined from the right.
use Rattle.std.proofs.Common.{◌≡◌, ℕ, suc, ◌+◌, ◌<◌, ◌≤◌, max, Bool, true, false, List, [], ◌∷◌, ◌++◌, length, refl, sym, ap, ap₂, ◌∙◌, subst, arith, length-append}
use Rattle.int_core.specs.Value.{Value, nth}
use Rattle.int_core.specs.Operations.{concat}
use Rattle.int_core.specs.Ask.{operates, Captured}
use Rattle.tree_core.specs.declared.operator.BinOp.{BinOp}
use Rattle.tree_core.specs.declared.operator.BinOp.TheVariants.{Concat as Join}
use Rattle.tree_core.specs.Tree.{Exp, Binary}
use Rattle.tree_activation.specs.Work.{evaluate, give, Work, Pending, right_of, left_of}
use Rattle.tree_activation.specs.Work as tree
use Rattle.tree_activation.specs.Asking.{first}
use Rattle.tree_activation.specs.Expressions.{give_first}
use Rattle.code_core.specs.declared.opcode.Opcode.TheVariants.{Concat}
use Rattle.machine_core.specs.World.{for_concat}
use Rattle.machine_core.specs.InstructionRows.{rest_at, arrived}
use Rattle.machine_core.specs.Talk.{before, amid, says_so, heard}
use Rattle.code_of.specs.Coded.{with_abc}
use Rattle.code_of.specs.Chains.{continues, links, unjoined}
use Rattle.code_of.specs.Expressions.{made_by, exp_code}
use Rattle.code_of.specs.Rooms.{room_of}
use Rattle.code_of.proofs.Chains.{link_form, continues_more, links_more, links_end, links_some, unjoined_more, join_room}
use Rattle.exp_laws.specs.Setting.{Setting}
use Rattle.exp_laws.specs.Placed.{IsPlaced}
use Rattle.exp_laws.proofs.Registers.{Rel, After, after_then, lower}
use Rattle.exp_laws.proofs.Talking.{Agree, go_left, of_tree, of_code}
use Rattle.exp_laws.proofs.Placing.{HasAt, has_front, has_back, here_abc}
use Rattle.exp_laws.proofs.Going.{Goes, at_place, goes_at, answer_goes}
use Rattle.exp_laws.proofs.Operands.{ExpSame}
use Rattle.exp_laws.proofs.ChainSteps.{joining_rest, joining_step, chain_step, waits_alike}

-- the operands that wait to be joined, the nearest first
abbrev pub lefts : (line : ℕ) → List Value → List Work → List Work
lefts line [] k = k
lefts line (v ∷ vs) k = left_of line Join v ∷ lefts line vs k

-- they stand in registers that follow each other, from t on
abbrev pub StandBelow : (t : ℕ) → (vs regs : List Value) → Type 0
StandBelow t [] regs = Unit {0}
StandBelow t (v ∷ vs) regs = (nth regs (t + length vs) ≡ v) × StandBelow t vs regs

stand_kept : (t u : ℕ) (vs regs regs' : List Value) → ((r : ℕ) → t ≤ r → r < u → nth regs' r ≡ nth regs r) → t + length vs ≤ u → StandBelow t vs regs → StandBelow t vs regs'
stand_kept t u [] regs regs' same low stand = tt
stand_kept t u (v ∷ vs) regs regs' same low stand = (same (t + length vs) (omega arith) (omega (arith, low)) ∙ stand.0, stand_kept t u vs regs regs' same (omega (arith, low)) stand.1)

module _ (S : Setting) (pending : List Pending) where
  -- an operand has its value, where `size` of them stand in the registers from t on: the last one's value is given, and the others wait
  abbrev pub GoesChained : (line size n t : ℕ) → (env regs : List Value) → (pc : ℕ) → (k : List Work) → Type 0
  GoesChained line size n t env regs pc k =
      (vs ws env' regs' : List Value) (c' : Captured) (opened' : ℕ) → After S.hidden S.code.own.stack pending env regs t env' regs' c'
      → length vs + 1 ≡ size → t + length vs < S.code.own.stack → StandBelow t vs regs' → nth regs' (t + length vs) ≡ first ws
      → Agree S n (tree.at (give ws) (of_tree S pending env' c') (lefts line vs k)) (before (of_code S pending pc regs' opened') c')

  -- the code of a right operand, which goes on with a chain on this line or ends it. Its value goes to register t, where the values of the
  -- operands us to its left stand in the registers from `base` on
  abbrev pub ChainSame : (line : ℕ) → Exp → Type 0
  ChainSame line d =
      (base t j n pc opened : ℕ) (us env regs : List Value) (c : Captured) (k : List Work)
      → t ≡ base + length us → n ≤ S.bound → HasAt S pc (unjoined (continues line d) (exp_code S.code.own.constants d t j 2)) → IsPlaced S d (length env) j
      → pc + length (unjoined (continues line d) (exp_code S.code.own.constants d t j 2)) < length S.code.own.code → length env ≤ base → t + room_of S.code.own.constants d 2 ≤ S.code.own.stack
      → Rel S.hidden S.code.own.stack pending env c regs → StandBelow base us regs
      → GoesChained line (length us + links line d) n base env regs (pc + length (unjoined (continues line d) (exp_code S.code.own.constants d t j 2))) k
      → Agree S n (tree.at (evaluate d) (of_tree S pending env c) (lefts line us k)) (before (of_code S pending pc regs opened) c)

  -- whatever the line
  abbrev pub ChainsSame : Exp → Type 0
  ChainsSame d = (line : ℕ) → ChainSame line d

  -- the chain ends by an operand that is no `..` on its line
  pub chain_end : (d : Exp) → ExpSame S pending d → 1 ≤ room_of S.code.own.constants d 2 → (line : ℕ) → continues line d ≡ false → ChainSame line d
  chain_end d law some line ends base t j n pc opened us env regs c k at_is bound has ok inside le room rel stand goes =
      let code = exp_code S.code.own.constants d t j 2 in
      let size : length (unjoined (continues line d) code) ≡ length code = ap (λ b. length (unjoined b code)) ends in
      let one = links_end line d ends in
      law t j n pc opened env regs c (lefts line us k) bound (subst (λ b. HasAt S pc (unjoined b code)) ends has) ok (omega (arith, inside, size)) (omega (arith, le, at_is)) room rel
      (λ vs env1 regs1 c1 o1 af eq given. at_place S pending n (pc + length code) (pc + length (unjoined (continues line d) code)) o1 _ regs1 c1 (omega (arith, size))
      (goes us vs env1 regs1 c1 o1 (lower S.hidden S.code.own.stack pending env regs env1 regs1 c1 t base (omega (arith, at_is)) af) (omega (arith, one)) (omega (arith, at_is, room, some))
      (stand_kept base t us regs regs1 (λ r lo hi. af.keeps r (omega (arith, le, lo)) hi) (omega (arith, at_is)) stand) (ap (nth regs1) (sym at_is) ∙ eq)))

  -- both operands of a `..`, whose code stands without its CONCAT
  chain_operands : (line : ℕ) (e d : Exp) → ExpSame S pending e → ChainSame line d → (base t j n pc end opened : ℕ) (us env regs : List Value) (c : Captured) (k : List Work)
      → t ≡ base + length us → n ≤ S.bound → HasAt S pc (exp_code S.code.own.constants e t j 2)
      → HasAt S (pc + length (exp_code S.code.own.constants e t j 2)) (unjoined (continues line d) (exp_code S.code.own.constants d (t + 1) (j + made_by e) 2))
      → IsPlaced S e (length env) j → IsPlaced S d (length env) (j + made_by e)
      → end ≡ pc + (length (exp_code S.code.own.constants e t j 2) + length (unjoined (continues line d) (exp_code S.code.own.constants d (t + 1) (j + made_by e) 2)))
      → end < length S.code.own.code → length env ≤ base → t + max (room_of S.code.own.constants e 2) (1 + room_of S.code.own.constants d 2) ≤ S.code.own.stack
      → Rel S.hidden S.code.own.stack pending env c regs → StandBelow base us regs → GoesChained line (suc (length us) + links line d) n base env regs end k
      → Agree S n (tree.at (evaluate e) (of_tree S pending env c) (right_of line Join d ∷ lefts line us k)) (before (of_code S pending pc regs opened) c)
  chain_operands line e d law_e law_d base t j n pc end opened us env regs c k at_is bound has_first has_rest ok_e ok_d ends inside le room rel stand goes =
      let first_code = exp_code S.code.own.constants e t j 2 in
      let rest_code = unjoined (continues line d) (exp_code S.code.own.constants d (t + 1) (j + made_by e) 2) in
      law_e t j n pc opened env regs c (right_of line Join d ∷ lefts line us k) bound has_first ok_e (omega (arith, inside, ends)) (omega (arith, le, at_is)) (omega (arith, room)) rel
      (λ vs env1 regs1 c1 o1 af eq given. go_left S n _ (tree.at (evaluate d) (of_tree S pending env1 c1) (lefts line (first vs ∷ us) k)) _ refl
      (law_d base (t + 1) (j + made_by e) n (pc + length first_code) o1 (first vs ∷ us) env1 regs1 c1 k (omega (arith, at_is)) bound has_rest
      (subst (λ z. IsPlaced S d z (j + made_by e)) (sym af.size) ok_d) (omega (arith, inside, ends)) (omega (arith, le, af.size)) (omega (arith, room)) af.rel
      (ap (nth regs1) (sym at_is) ∙ eq, stand_kept base t us regs regs1 (λ r lo hi. af.keeps r (omega (arith, le, lo)) hi) (omega (arith, at_is)) stand)
      (λ more ws env2 regs2 c2 o2 af2 count below stand2 last. at_place S pending n (pc + length first_code + length rest_code) end o2 _ regs2 c2 (omega (arith, ends))
      (goes more ws env2 regs2 c2 o2
      (after_then S.hidden S.code.own.stack pending env regs env1 regs1 env2 regs2 c1 c2 base base (omega arith) (lower S.hidden S.code.own.stack pending env regs env1 regs1 c1 t base (omega (arith, at_is)) af) af2)
      count below stand2 last))))

  -- a `..` on the line goes on with the chain
  chain_more : (line : ℕ) (e d : Exp) → ExpSame S pending e → ChainSame line d → ChainSame line (Binary line Join e d)
  chain_more line e d law_e law_d base t j n pc opened us env regs c k at_is bound has ok inside le room rel stand goes =
      let cs = S.code.own.constants in
      let first_code = exp_code cs e t j 2 in
      let rest_code = unjoined (continues line d) (exp_code cs d (t + 1) (j + made_by e) 2) in
      let whole_code = unjoined (continues line (Binary line Join e d)) (exp_code cs (Binary line Join e d) t j 2) in
      let is : whole_code ≡ first_code ++ rest_code = ap (λ b. unjoined b (exp_code cs (Binary line Join e d) t j 2)) (continues_more line e d) ∙ unjoined_more cs line e d t j 2 in
      let size : length whole_code ≡ length (first_code ++ rest_code) = ap length is in
      let whole = length-append first_code rest_code in
      let here = subst (HasAt S pc) is has in
      let more = links_more line e d in
      let wide = join_room cs 1 Join e d (room_of cs e 2) (room_of cs d 2) refl in
      go_left S n _ (tree.at (evaluate e) (of_tree S pending env c) (right_of line Join d ∷ lefts line us k)) _ refl
      (chain_operands line e d law_e law_d base t j n pc (pc + length whole_code) opened us env regs c k at_is bound (has_front S pc first_code rest_code here) (has_back S pc first_code rest_code here) ok.0 ok.1
      (omega (arith, size, whole)) inside le (omega (arith, room, wide)) rel stand
      (λ vs ws env1 regs1 c1 o1 af count below stand1 last. goes vs ws env1 regs1 c1 o1 af (omega (arith, count, more)) below stand1 last))

  pub chain_binary : (own : ℕ) (op : BinOp) (e d : Exp) → ExpSame S pending e → ChainsSame d → ExpSame S pending (Binary own op e d) → 1 ≤ room_of S.code.own.constants (Binary own op e d) 2
      → ChainsSame (Binary own op e d)
  chain_binary own op e d law_e law_d law some line = by (continues line (Binary own op e d)) refl
    where
      by : (b : Bool) → continues line (Binary own op e d) ≡ b → ChainSame line (Binary own op e d)
      by false ends = chain_end (Binary own op e d) law some line ends
      by true more = subst (ChainSame line) (sym (link_form line own op e d more)) (chain_more line e d law_e (law_d line))

  -- what the last operands were joined to is joined with the others, one after another
  joined_goes : (us : List Value) (line t b n pc opened : ℕ) (ws env regs env1 regs1 : List Value) (c1 : Captured) (k : List Work)
      → HasAt S pc (with_abc Concat t b 0 line ∷ []) → pc + 1 < length S.code.own.code → length env ≤ t → t + length us < S.code.own.stack
      → After S.hidden S.code.own.stack pending env regs t env1 regs1 c1 → StandBelow t us regs1 → Goes S pending n false t env regs (pc + 1) k
      → Agree S n (tree.at (give_first ws) (of_tree S pending env1 c1) (lefts line us k)) (amid (rest_at {V = Value} (for_concat (length us)) S.code pc) (arrived (for_concat (length us)) ws) (of_code S pending pc regs1 opened) c1)
  joined_goes [] line t b n pc opened ws env regs env1 regs1 c1 k has inside le room af stand goes =
      let below : t < S.code.own.stack = omega (arith, room) in
      subst (λ x. Agree S n (tree.at (give_first ws) (of_tree S pending env1 c1) k) (amid x ws (of_code S pending pc regs1 opened) c1)) (sym (joining_rest S.code t b 0 pc has.0 (omega (arith, below, S.small))))
      (answer_goes S pending n false t pc opened ws env regs env1 regs1 c1 k inside le below af goes)
  joined_goes (v ∷ us) line t b n pc opened ws env regs env1 regs1 c1 k has inside le room af stand goes =
      subst (λ x. Agree S n (tree.at (give_first ws) (of_tree S pending env1 c1) (lefts line (v ∷ us) k)) (amid x (first ws ∷ []) (of_code S pending pc regs1 opened) c1))
      (sym (joining_rest S.code t b (suc (length us)) pc has.0 (omega (arith, room, S.small))))
      (waits_alike S pending n (for_concat (length us)) _ _ (operates concat (v ∷ first ws ∷ [])) (operates concat (v ∷ first ws ∷ [])) line pc opened (t + suc (length us)) env1 regs1 c1 (lefts line us k) give_first refl
      (joining_step S.code t (length us) (first ws) (of_code S pending pc regs1 opened) c1 (omega (arith, room, af.rel.room))
      ∙ ap (λ x. says_so (operates concat (x ∷ first ws ∷ [])) S.code (of_code S pending pc regs1 opened) c1 (λ z q r. heard (for_concat (length us)) S.code z q r)) stand.0)
      (λ m. (refl, refl)) refl af.rel (here_abc S Concat t b 0 false line pc [] has)
      (λ xs env2 regs2 c2 af2. joined_goes us line t b n pc opened xs env regs env2 regs2 c2 k has inside le (omega (arith, room))
      (after_then S.hidden S.code.own.stack pending env regs env1 regs1 env2 regs2 c1 c2 t (t + suc (length us)) (omega arith) af af2)
      (stand_kept t (t + suc (length us)) us regs1 regs2 (λ r lo hi. af2.keeps r (omega (arith, le, lo, af.size)) hi) (omega arith) stand.1) goes))

  -- all operands stand in their registers
  all_stand : (vs : List Value) (count line t n pc opened : ℕ) (ws env regs env1 regs1 : List Value) (c1 : Captured) (k : List Work)
      → 1 ≤ count → length vs ≡ count → HasAt S pc (with_abc Concat t (suc count) 0 line ∷ []) → pc + 1 < length S.code.own.code → length env ≤ t → t + length vs < S.code.own.stack
      → After S.hidden S.code.own.stack pending env regs t env1 regs1 c1 → StandBelow t vs regs1 → nth regs1 (t + length vs) ≡ first ws → Goes S pending n false t env regs (pc + 1) k
      → Agree S n (tree.at (give ws) (of_tree S pending env1 c1) (lefts line vs k)) (before (of_code S pending pc regs1 opened) c1)
  all_stand [] count line t n pc opened ws env regs env1 regs1 c1 k some size has inside le room af stand last goes = absurd (omega (arith, some, size))
  all_stand (v ∷ us) count line t n pc opened ws env regs env1 regs1 c1 k some size has inside le room af stand last goes =
      let b = suc (suc (length us)) in
      let here = subst (λ m. HasAt S pc (with_abc Concat t (suc m) 0 line ∷ [])) (sym size) has in
      waits_alike S pending n (for_concat (length us)) _ _ (operates concat (v ∷ first ws ∷ [])) (operates concat (v ∷ first ws ∷ [])) line pc opened (t + suc (length us)) env1 regs1 c1 (lefts line us k) give_first refl
      (chain_step S.code t (length us) (of_code S pending pc regs1 opened) c1 here.0 (omega (arith, room, S.small)) (omega (arith, room, S.small)) (omega (arith, room, af.rel.room))
      ∙ ap₂ (λ x y. says_so (operates concat (x ∷ y ∷ [])) S.code (of_code S pending pc regs1 opened) c1 (λ z q r. heard (for_concat (length us)) S.code z q r)) stand.0 last)
      (λ m. (refl, refl)) refl af.rel (here_abc S Concat t b 0 false line pc [] here)
      (λ xs env2 regs2 c2 af2. joined_goes us line t b n pc opened xs env regs env2 regs2 c2 k here inside le (omega (arith, room))
      (after_then S.hidden S.code.own.stack pending env regs env1 regs1 env2 regs2 c1 c2 t (t + suc (length us)) (omega arith) af af2)
      (stand_kept t (t + suc (length us)) us regs1 regs2 (λ r lo hi. af2.keeps r (omega (arith, le, lo, af.size)) hi) (omega arith) stand.1) goes)

  -- the whole chain
  pub join_same : (line : ℕ) (e d : Exp) → ExpSame S pending e → ChainSame line d → ExpSame S pending (Binary line Join e d)
  join_same line e d law_e law_d t j n pc opened env regs c k bound has ok inside le room rel goes =
      let cs = S.code.own.constants in
      let first_code = exp_code cs e t j 2 in
      let rest_code = unjoined (continues line d) (exp_code cs d (t + 1) (j + made_by e) 2) in
      let last_code = with_abc Concat t (suc (links line d)) 0 line ∷ [] in
      let whole = length-append first_code (rest_code ++ last_code) in
      let rest = length-append rest_code last_code in
      let behind = has_back S pc first_code (rest_code ++ last_code) has in
      let end = pc + length first_code + length rest_code in
      let wide = join_room cs 1 Join e d (room_of cs e 2) (room_of cs d 2) refl in
      let some = links_some line d in
      go_left S n _ (tree.at (evaluate e) (of_tree S pending env c) (right_of line Join d ∷ k)) _ refl
      (chain_operands line e d law_e law_d t t j n pc end opened [] env regs c k (omega arith) bound (has_front S pc first_code (rest_code ++ last_code) has) (has_front S (pc + length first_code) rest_code last_code behind) ok.0 ok.1
      (omega arith) (omega (arith, inside, whole, rest)) le (omega (arith, room, wide)) rel tt
      (λ vs ws env1 regs1 c1 o1 af count below stand last. all_stand vs (links line d) line t n end o1 ws env regs env1 regs1 c1 k some (omega (arith, count)) (has_back S (pc + length first_code) rest_code last_code behind)
      (omega (arith, inside, whole, rest)) le below af stand last
      (goes_at S pending n false t (end + 1) (pc + length (first_code ++ (rest_code ++ last_code))) env regs k (omega (arith, whole, rest)) goes)))
