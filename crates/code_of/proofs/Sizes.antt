-- The code of a statement has as many instructions as its size says, wherever it stands and its jumps lead.
use Rattle.std.proofs.Common.{◌≡◌, ℕ, ◌+◌, Bool, true, false, List, [], ◌∷◌, ◌++◌, length, Option, Some, None, refl, sym, ap, ap₂, ◌∙◌, arith, length-append, ◌≤◌, cond}
use Rattle.tree_terms.specs.Bodies.{line_of_body, upvalues_of}
use Rattle.tree_core.specs.Tree.{Body, Block, Falls, Returns, Stats, EndStats, MoreStats, Stat, Local, Do, While, Repeat, If, IfElse, NumFor, NumForStep, GenFor, Goto, Break, Arms, EndArms, MoreArms, Exp, True, Unary, Binary, And, Or, Paren}
use Rattle.tree_core.specs.declared.operator.BinOp.{BinOp}
use Rattle.tree_core.specs.declared.operator.BinOp.TheVariants.{Eq as Equal, Ne, Lt as Less, Le as AtMost, Gt, Ge}
use Rattle.code_core.specs.declared.opcode.Opcode.{Opcode}
use Rattle.tree_activation.specs.Activation.{line_of_end}
use Rattle.code_core.specs.declared.opcode.Opcode.TheVariants.{Close, Eq, Lt, Le, EqK, ForLoop, ForPrep, TForPrep, TForCall, TForLoop, Return}
use Rattle.code_core.specs.declared.proto.Const.{Const}
use Rattle.code_of.specs.Truths.{jump_if, pick, compared, is_not}
use Rattle.code_of.specs.Conditions.{value_test, test_code}
use Rattle.code_of.specs.Coded.{Coded, with_abc, with_abx, jump_over, jump_back, leaving_by}
use Rattle.code_of.specs.Expressions.{made_by, made_in, exp_code, exps_code}
use Rattle.code_of.specs.Operands.{local_of}
use Rattle.code_of.specs.Operators.{number_opcode}
use Rattle.code_of.proofs.Operands.{unless_sized}
use Rattle.code_of.specs.Operations.{constant_in}
use Rattle.code_of.proofs.Operations.{operation_sized}
use Rattle.code_of.specs.declared.leaving.Leaving.{Leaving}
use Rattle.code_of.specs.Jumps.{Landing, Visible, Reach, label_in, jump_size, leads}
use Rattle.code_of.specs.Levels.{made_by_stat, made_in_arms, made_in_stats, made_in_block, closing_after, closings_after, closed_below, closed_until}
use Rattle.tree_terms.specs.Levels.{level_after, levels_after, levels_in}
use Rattle.code_of.specs.Parts.{marks_code, close_code, captures_local, closure_code, function_code, while_code, repeat_code, past_size, past, arm_code, counting_code, iterating_code, return_code, bounds_code, steps_code}
use Rattle.code_of.specs.Sizes.{stat_size, arms_size, stats_size, block_size, open_size, whole_size}
use Rattle.code_of.specs.Statements.{in_loop, passed_after, labels_ahead, stat_code, arms_code, stats_code, block_code, open_code, whole_code}
use Rattle.std.specs.Prelude.{cond, not, nat_eq, ◌||◌}

-- a condition is as long wherever it leads

compared_sized : (op : BinOp) (other other' : List Coded) (by by' : Opcode → (swapped wanted : Bool) → List Coded) → length other ≡ length other' → ((o : Opcode) (s w : Bool) → length (by o s w) ≡ length (by' o s w))
    → length (compared op other by) ≡ length (compared op other' by')
compared_sized op other other' by by' e is = each op
  where
    each : (op : BinOp) → length (compared op other by) ≡ length (compared op other' by')
    each Equal = is Eq false true
    each Ne = is Eq false false
    each Less = is Lt false true
    each AtMost = is Le false true
    each Gt = is Lt true true
    each Ge = is Le true true
    each _ = e

both_sized : (xs ys xs' ys' : List Coded) → length xs ≡ length xs' → length ys ≡ length ys' → length (xs ++ ys) ≡ length (xs' ++ ys')
both_sized xs ys xs' ys' e d = length-append xs ys ∙ ap₂ (λ m n. m + n) e d ∙ sym (length-append xs' ys')

module _ (cs : List Const) where
  abbrev pub TestSized : Exp → Type 0
  TestSized e = (k : Bool) (ahead t j : ℕ) → length (test_code cs e k ahead t j) ≡ length (test_code cs e k 0 t j)

  value_sized : (e : Exp) (k : Bool) (ahead t j : ℕ) → length (value_test cs e k ahead t j) ≡ length (value_test cs e k 0 t j)
  value_sized e k ahead t j = unless_sized (local_of e) (exp_code cs e t j 2) _ (exp_code cs e t j 2) _ refl refl

  anywhere : (e : Exp) → TestSized e → (k : Bool) (a b t j : ℕ) → length (test_code cs e k a t j) ≡ length (test_code cs e k b t j)
  anywhere e sized k a b t j = sized k a t j ∙ sym (sized k b t j)

  prefix_sized : (b : Bool) (e whole : Exp) → TestSized e → (k : Bool) (ahead t j : ℕ)
      → length (cond b (test_code cs e (not k) ahead t j) (value_test cs whole k ahead t j)) ≡ length (cond b (test_code cs e (not k) 0 t j) (value_test cs whole k 0 t j))
  prefix_sized true e whole sized k ahead t j = sized (not k) ahead t j
  prefix_sized false e whole sized k ahead t j = value_sized whole k ahead t j

  true_sized : (k : Bool) (ahead line : ℕ) → length (cond k [] (jump_over ahead line ∷ [])) ≡ length (cond k [] (jump_over 0 line ∷ []))
  true_sized true ahead line = refl
  true_sized false ahead line = refl

  pub test_sized : (e : Exp) → TestSized e
  test_sized (Paren line e) k ahead t j = test_sized e k ahead t j
  test_sized (Unary line op e) k ahead t j = prefix_sized (is_not op) e (Unary line op e) (test_sized e) k ahead t j
  test_sized (And line e d) k ahead t j =
      both_sized (test_code cs e true (length (test_code cs d k ahead t (j + made_by e)) + cond k ahead 0) t j) (test_code cs d k ahead t (j + made_by e))
      (test_code cs e true (length (test_code cs d k 0 t (j + made_by e)) + cond k 0 0) t j) (test_code cs d k 0 t (j + made_by e))
      (anywhere e (test_sized e) true _ _ t j) (test_sized d k ahead t (j + made_by e))
  test_sized (Or line e d) k ahead t j =
      both_sized (test_code cs e false (length (test_code cs d k ahead t (j + made_by e)) + cond k 0 ahead) t j) (test_code cs d k ahead t (j + made_by e))
      (test_code cs e false (length (test_code cs d k 0 t (j + made_by e)) + cond k 0 0) t j) (test_code cs d k 0 t (j + made_by e))
      (anywhere e (test_sized e) false _ _ t j) (test_sized d k ahead t (j + made_by e))
  test_sized (Binary line op e d) k ahead t j =
      compared_sized op _ _ _ _ (value_sized (Binary line op e d) k ahead t j)
      (λ o s w. let field = cond w (not k) k in
      operation_sized (constant_in cs op d) op e d (exp_code cs e t j 2) (exp_code cs d (t + 1) (j + made_by e) 2) t
      (λ x n. jump_if EqK x n field ahead line) (λ x n. jump_if EqK x n field 0 line)
      (λ x y. jump_if o (pick s x y) (pick s y x) field ahead line) (λ x y. jump_if o (pick s x y) (pick s y x) field 0 line)
      (λ x n. jump_if (number_opcode op) x (n + 127) field ahead line) (λ x n. jump_if (number_opcode op) x (n + 127) field 0 line) (λ x n. refl) (λ x y. refl) (λ x n. refl))
  test_sized (True line) k ahead t j = true_sized k ahead line
  test_sized e k ahead t j = value_sized e k ahead t j

-- the forms of statements, where their parts have these sizes

pub while_sized : (test : ℕ → List Coded) (block : List Coded) (line l m : ℕ) → ((ahead : ℕ) → length (test ahead) ≡ l) → length block ≡ m → length (while_code test block line) ≡ l + (m + 1)
while_sized test block line l m is e =
    let first = test (length block + 1) in
    let back = jump_back (length first + length block + 1) line ∷ [] in
    let a = length-append first (block ++ back) in
    let b = length-append block back in
    let f = is (length block + 1) in
    omega (arith, a, b, e, f)

pub repeat_sized : (test : ℕ → List Coded) (block close : List Coded) (line l m : ℕ) → ((ahead : ℕ) → length (test ahead) ≡ l) → length block ≡ m
    → length (repeat_code test block close line) ≡ m + (l + (length close + length close + 1))
repeat_sized test block close line l m is e =
    let last = test (length close + 1) in
    let back = jump_back (length block + length last + length close + 1) line ∷ close in
    let a = length-append block (last ++ (close ++ back)) in
    let b = length-append last (close ++ back) in
    let c = length-append close back in
    let f = is (length close + 1) in
    omega (arith, a, b, c, e, f)

pub past_sized : (rest : List Coded) (line : ℕ) → length (past rest line) ≡ past_size (length rest)
past_sized [] line = refl
past_sized (x ∷ rest) line = refl

pub arm_sized : (test : ℕ → List Coded) (block rest : List Coded) (line l m n : ℕ) → ((ahead : ℕ) → length (test ahead) ≡ l) → length block ≡ m → length rest ≡ n
    → length (arm_code test block rest line) ≡ l + (m + (past_size n + n))
arm_sized test block rest line l m n is e d =
    let p = past rest line in
    let first = test (length block + length p) in
    let a = length-append first (block ++ (p ++ rest)) in
    let b = length-append block (p ++ rest) in
    let c = length-append p rest in
    let s = past_sized rest line ∙ ap past_size d in
    let f = is (length block + length p) in
    omega (arith, a, b, c, e, d, s, f)

pub counting_sized : (start block : List Coded) (t line m : ℕ) → length block ≡ m → length (counting_code start block t line) ≡ length start + (m + 2)
counting_sized start block t line m e =
    let back = with_abx ForLoop t (length block + 1) line ∷ [] in
    let a = length-append start (with_abx ForPrep t (length block) line ∷ (block ++ back)) in
    let b = length-append block back in
    omega (arith, a, b, e)

pub iterating_sized : (start block : List Coded) (t n line m : ℕ) → length block ≡ m → length (iterating_code start block t n line) ≡ length start + (m + 4)
iterating_sized start block t n line m e =
    let back = with_abc TForCall t 0 n line ∷ with_abx TForLoop t (length block + 2) line ∷ with_abc Close t 0 0 line ∷ [] in
    let a = length-append start (with_abx TForPrep t (length block) line ∷ (block ++ back)) in
    let b = length-append block back in
    omega (arith, a, b, e)

leads_sized : (closes : Bool) (o : Option Landing) (pc line : ℕ) → length (leads closes o pc line) ≡ jump_size closes
leads_sized true None pc line = refl
leads_sized true (Some x) pc line = refl
leads_sized false None pc line = refl
leads_sized false (Some x) pc line = refl

pub jump_short : (closes : Bool) → jump_size closes ≤ 2
jump_short true = omega arith
jump_short false = omega arith

pub close_sized : (before after line other : ℕ) → length (close_code before after line) ≡ length (close_code before after other)
close_sized before after line other = by (nat_eq before after)
  where
    by : (b : Bool) → length (cond b [] (with_abc Close before 0 0 line ∷ [])) ≡ length (cond b [] (with_abc Close before 0 0 other ∷ []))
    by true = refl
    by false = refl

module _ (cs : List Const) (back : Leaving) where
  mutual
    pub stat_sized : (s : Stat) (closing : Bool) (t j pc : ℕ) (reach : Reach) → length (stat_code cs back s closing t j pc reach) ≡ stat_size cs back s closing t j
    stat_sized (Local line names es) closing t j pc reach = length-append (exps_code cs es (Some (length names)) t j line) (marks_code names t)
    stat_sized (Do line block) closing t j pc reach = block_sized block closing t t j pc reach
    stat_sized (While line e block) closing t j pc reach =
        let place = pc + length (test_code cs e true 0 t j) in
        let inner = in_loop reach (pc + stat_size cs back (While line e block) closing t j) t in
        while_sized (λ ahead. test_code cs e true ahead t j) (block_code cs back block closing t t (j + made_by e) place inner) line _ _
        (λ ahead. test_sized cs e true ahead t j) (block_sized block closing t t (j + made_by e) place inner)
    stat_sized (Repeat line block e) closing t j pc reach =
        let within = levels_in block t in
        let size = length (test_code cs e false 0 within (j + made_in_block block)) in
        let inner = in_loop reach (pc + stat_size cs back (Repeat line block e) closing t j) t in
        let low = closed_until block e t in
        let same = close_sized t low (line_of_end block) line in
        let whole = repeat_sized (λ ahead. test_code cs e false ahead within (j + made_in_block block)) (open_code cs back block closing t j pc inner) (close_code t low (line_of_end block)) line _ _
        (λ ahead. test_sized cs e false ahead within (j + made_in_block block)) (open_sized block closing t j pc inner) in
        whole ∙ ap (λ c. open_size cs back block closing t j + (size + (c + c + 1))) same
    stat_sized (If line arms) closing t j pc reach = let a = arms_sized arms [] closing t j pc line reach in omega (arith, a)
    stat_sized (IfElse line arms block) closing t j pc reach =
        let k = j + made_in_arms arms in
        let place = pc + arms_size cs back arms (block_size cs back block closing t t k) closing t j in
        arms_sized arms (block_code cs back block closing t t k place reach) closing t j pc line reach
        ∙ ap (λ m. arms_size cs back arms m closing t j + m) (block_sized block closing t t k place reach)
    stat_sized (NumFor line name from limit block) closing t j pc reach =
        let start = bounds_code cs from limit t j line in
        let k = j + made_by from + made_by limit in
        let inner = in_loop reach (pc + stat_size cs back (NumFor line name from limit block) closing t j) t in
        counting_sized start (block_code cs back block closing (t + 3) (t + 4) k (pc + length start + 1) inner) t line _ (block_sized block closing (t + 3) (t + 4) k (pc + length start + 1) inner)
    stat_sized (NumForStep line name from limit step block) closing t j pc reach =
        let start = steps_code cs from limit step t j in
        let k = j + made_by from + made_by limit + made_by step in
        let inner = in_loop reach (pc + stat_size cs back (NumForStep line name from limit step block) closing t j) t in
        counting_sized start (block_code cs back block closing (t + 3) (t + 4) k (pc + length start + 1) inner) t line _ (block_sized block closing (t + 3) (t + 4) k (pc + length start + 1) inner)
    stat_sized (GenFor line names es block) closing t j pc reach =
        let start = exps_code cs es (Some 4) t j line in
        let k = j + made_in es in
        let inner = in_loop reach (pc + stat_size cs back (GenFor line names es block) closing t j) t in
        iterating_sized start (block_code cs back block true (t + 4) (t + 4 + length names) k (pc + length start + 1) inner) t (length names) line _
        (block_sized block true (t + 4) (t + 4 + length names) k (pc + length start + 1) inner)
    stat_sized (Goto line name) closing t j pc reach = leads_sized (back.closes || closing) (label_in name.text reach.labels) pc line
    stat_sized (Break line) closing t j pc reach = leads_sized (back.closes || closing) reach.exit pc line
    stat_sized _ closing t j pc reach = refl

    pub arms_sized : (arms : Arms) (otherwise : List Coded) (closing : Bool) (t j pc line : ℕ) (reach : Reach)
        → length (arms_code cs back arms otherwise closing t j pc line reach) ≡ arms_size cs back arms (length otherwise) closing t j + length otherwise
    arms_sized EndArms otherwise closing t j pc line reach = omega arith
    arms_sized (MoreArms e block arms) otherwise closing t j pc line reach =
        let k = j + made_by e + made_in_block block in
        let inner = pc + length (test_code cs e true 0 t j) in
        let others = arms_size cs back arms (length otherwise) closing t k in
        let behind = inner + block_size cs back block closing t t (j + made_by e) + past_size (others + length otherwise) in
        let a = arm_sized (λ ahead. test_code cs e true ahead t j) (block_code cs back block closing t t (j + made_by e) inner reach) (arms_code cs back arms otherwise closing t k behind line reach) line _ _ _
        (λ ahead. test_sized cs e true ahead t j) (block_sized block closing t t (j + made_by e) inner reach) (arms_sized arms otherwise closing t k behind line reach) in
        omega (arith, a)

    pub stats_sized : (ss : Stats) (falls closing : Bool) (outer t j pc : ℕ) (passed : List Visible) (reach : Reach)
        → length (stats_code cs back ss falls closing outer t j pc passed reach) ≡ stats_size cs back ss closing t j
    stats_sized EndStats falls closing outer t j pc passed reach = refl
    stats_sized (MoreStats s ss) falls closing outer t j pc passed reach =
        let k = j + made_by_stat s in
        let place = pc + stat_size cs back s closing t j in
        let ahead = labels_ahead cs back ss falls (closing_after s closing) outer (level_after s t) k place in
        let here : Reach = record { labels = ahead ++ (passed ++ reach.labels); exit = reach.exit } in
        let a = length-append (stat_code cs back s closing t j pc here) (stats_code cs back ss falls (closing_after s closing) outer (level_after s t) k place (passed_after s t pc passed) reach) in
        let b = stat_sized s closing t j pc here in
        let c = stats_sized ss falls (closing_after s closing) outer (level_after s t) k place (passed_after s t pc passed) reach in
        omega (arith, a, b, c)

    pub block_sized : (block : Block) (closing : Bool) (outer t j pc : ℕ) (reach : Reach) → length (block_code cs back block closing outer t j pc reach) ≡ block_size cs back block closing outer t j
    block_sized (Falls ss tokens line) closing outer t j pc reach =
        length-append (stats_code cs back ss true closing outer t j pc [] reach) (close_code outer (closed_below ss outer t) line)
        ∙ ap (λ n. n + length (close_code outer (closed_below ss outer t) line)) (stats_sized ss true closing outer t j pc [] reach)
    block_sized (Returns ss es tokens line) closing outer t j pc reach =
        let last = return_code cs (closings_after ss closing) es (levels_after ss t) (j + made_in_stats ss) line back.back in
        length-append (stats_code cs back ss false closing outer t j pc [] reach) last
        ∙ ap (λ n. n + length last) (stats_sized ss false closing outer t j pc [] reach)

    pub open_sized : (block : Block) (closing : Bool) (t j pc : ℕ) (reach : Reach) → length (open_code cs back block closing t j pc reach) ≡ open_size cs back block closing t j
    open_sized (Falls ss tokens line) closing t j pc reach = stats_sized ss false closing t t j pc [] reach
    open_sized (Returns ss es tokens line) closing t j pc reach =
        let last = return_code cs (closings_after ss closing) es (levels_after ss t) (j + made_in_stats ss) line back.back in
        length-append (stats_code cs back ss false closing t t j pc [] reach) last
        ∙ ap (λ n. n + length last) (stats_sized ss false closing t t j pc [] reach)

pub close_short : (before after line : ℕ) → length (close_code before after line) ≤ 1
close_short before after line = by (nat_eq before after)
  where
    by : (b : Bool) → length (cond b [] (with_abc Close before 0 0 line ∷ [])) ≤ 1
    by true = omega arith
    by false = omega arith

pub whole_sized : (cs : List Const) (back : Leaving) (block : Block) (params pc : ℕ) → length (whole_code cs back block params pc) ≡ whole_size cs back block params 0
whole_sized cs back (Falls ss tokens line) params pc =
    let reach : Reach = record { labels = []; exit = None } in
    let a = length-append (stats_code cs back ss true false 0 params 0 pc [] reach) (leaving_by Return (levels_after ss params) 1 back.back line ∷ []) in
    let b = stats_sized cs back ss true false 0 params 0 pc [] reach in
    omega (arith, a, b)
whole_sized cs back (Returns ss es tokens line) params pc = block_sized cs back (Returns ss es tokens line) false 0 params 0 pc (record { labels = []; exit = None })

closure_some : (own : Bool) (t j line : ℕ) → 1 ≤ length (closure_code own t j line)
closure_some true t j line = omega arith
closure_some false t j line = omega arith

closure_short : (own : Bool) (t j line : ℕ) → length (closure_code own t j line) ≤ 2
closure_short true t j line = omega arith
closure_short false t j line = omega arith

-- a local function has an instruction, and no more than two
pub function_some : (body : Body) (t j : ℕ) → 1 ≤ length (function_code body t j)
function_some body t j = closure_some (captures_local t (upvalues_of body)) t j (line_of_body body)

pub function_short : (body : Body) (t j : ℕ) → length (function_code body t j) ≤ 2
function_short body t j = closure_short (captures_local t (upvalues_of body)) t j (line_of_body body)
