-- The functions of a body's code stand at their numbers.
use Rattle.std.proofs.Common.{◌≡◌, ℕ, zero, suc, ◌+◌, List, [], ◌∷◌, length, drop, ◌<◌, ◌≤◌, ◌^◌, Option, Some, slice_get, refl, subst, ap, arith}
use Rattle.std.proofs.lemmas.Option.{slice_get_within}
use Rattle.tree_core.specs.Tree.{Block, Falls, Returns, Body, BodyOf, Stats, EndStats, MoreStats, Stat, Local, LocalFunction, Assign, CallStat, Do, While, Repeat, If, IfElse, NumFor, NumForStep, GenFor, Arms, EndArms, MoreArms, Exp, Function, Index, Call, Method, Unary, Binary, And, Or, Paren, Table, Exps, EndExps, MoreExps, Fields, EndFields, MoreFields, Field, Item, Keyed}
use Rattle.code_core.specs.Prototype.{Prototype, Prototypes, none, list_of}
use Rattle.code_of.specs.CodeOf.{code_of, from_exp, from_exps, from_fields, from_field, from_stat, from_arms, from_stats, from_block}
use Rattle.code_of.specs.Expressions.{made_by, made_in, made_in_fields, made_by_field}
use Rattle.code_of.specs.Levels.{made_by_stat, made_in_arms, made_in_stats, made_in_block}
use Rattle.code_bounds.specs.Functions.{IsMade, ExpMakes, ExpsMake, FieldsMake, FieldMakes, StatMakes, ArmsMake, StatsMake, BlockMakes, FunctionsAreNumbered}

-- a list goes on with one function at a number, and with others behind it
stands_here : (fs : List Prototype) (j : ℕ) (p : Prototype) (rest : List Prototype) → drop j fs ≡ p ∷ rest → (slice_get fs j ≡ Some p) × (drop (j + 1) fs ≡ rest)
stands_here [] zero p rest h = absurd (cc)
stands_here [] (suc j) p rest h = absurd (cc)
stands_here (x ∷ fs) zero p rest h = let a : x ≡ p = cc in let b : fs ≡ rest = cc in (ap Some a, b)
stands_here (x ∷ fs) (suc j) p rest h =
    let below = stands_here fs j p rest h in
    let e : suc (j + 1) ≡ suc j + 1 = omega arith in
    (below.0, subst (λ n. drop n (x ∷ fs) ≡ rest) e below.1)

module _ (source : Option (List ℕ)) (fs : List Prototype) where
  -- the functions from number j on are these
  abbrev From : ℕ → Prototypes → Type 0
  From j ps = drop j fs ≡ list_of ps

  from_same : (j k : ℕ) (ps : Prototypes) → j ≡ k → From j ps → From k ps
  from_same j k ps e h = subst (λ n. From n ps) e h

  -- a piece that makes nothing
  nothing : (j : ℕ) (rest : Prototypes) → From j rest → Unit {0} × From (j + 0) rest
  nothing j rest h = (tt, from_same j (j + 0) rest (omega arith) h)

  function_made : (body : Body) (j : ℕ) (rest : Prototypes) → drop j fs ≡ code_of source body ∷ list_of rest → IsMade source fs j body × From (j + 1) rest
  function_made body j rest h = stands_here fs j (code_of source body) (list_of rest) h

  -- one piece behind another
  two : {A B : Type 0} (j a b : ℕ) (middle rest : Prototypes) → A × From (j + a) middle → (From (j + a) middle → B × From (j + a + b) rest) → (A × B) × From (j + (a + b)) rest
  two j a b middle rest h goes =
      let k = goes h.1 in
      ((h.0, k.0), from_same (j + a + b) (j + (a + b)) rest (omega arith) k.1)

  mutual
    exp_made : (e : Exp) (j : ℕ) (rest : Prototypes) → From j (from_exp source e rest) → ExpMakes source fs e j × From (j + made_by e) rest
    exp_made (Function line body) j rest h = function_made body j rest h
    exp_made (Index line object key) j rest h =
        two j (made_by object) (made_by key) (from_exp source key rest) rest (exp_made object j (from_exp source key rest) h) (λ k. exp_made key (j + made_by object) rest k)
    exp_made (Call line f es) j rest h =
        two j (made_by f) (made_in es) (from_exps source es rest) rest (exp_made f j (from_exps source es rest) h) (λ k. exps_made es (j + made_by f) rest k)
    exp_made (Method line object name es) j rest h =
        two j (made_by object) (made_in es) (from_exps source es rest) rest (exp_made object j (from_exps source es rest) h) (λ k. exps_made es (j + made_by object) rest k)
    exp_made (Unary line op e) j rest h = exp_made e j rest h
    exp_made (Binary line op e d) j rest h =
        two j (made_by e) (made_by d) (from_exp source d rest) rest (exp_made e j (from_exp source d rest) h) (λ k. exp_made d (j + made_by e) rest k)
    exp_made (And line e d) j rest h =
        two j (made_by e) (made_by d) (from_exp source d rest) rest (exp_made e j (from_exp source d rest) h) (λ k. exp_made d (j + made_by e) rest k)
    exp_made (Or line e d) j rest h =
        two j (made_by e) (made_by d) (from_exp source d rest) rest (exp_made e j (from_exp source d rest) h) (λ k. exp_made d (j + made_by e) rest k)
    exp_made (Paren line e) j rest h = exp_made e j rest h
    exp_made (Table line fields) j rest h = fields_made fields j rest h
    exp_made _ j rest h = nothing j rest h

    exps_made : (es : Exps) (j : ℕ) (rest : Prototypes) → From j (from_exps source es rest) → ExpsMake source fs es j × From (j + made_in es) rest
    exps_made EndExps j rest h = nothing j rest h
    exps_made (MoreExps e es) j rest h =
        two j (made_by e) (made_in es) (from_exps source es rest) rest (exp_made e j (from_exps source es rest) h) (λ k. exps_made es (j + made_by e) rest k)

    fields_made : (fields : Fields) (j : ℕ) (rest : Prototypes) → From j (from_fields source fields rest) → FieldsMake source fs fields j × From (j + made_in_fields fields) rest
    fields_made EndFields j rest h = nothing j rest h
    fields_made (MoreFields f fields) j rest h =
        two j (made_by_field f) (made_in_fields fields) (from_fields source fields rest) rest (field_made f j (from_fields source fields rest) h)
        (λ k. fields_made fields (j + made_by_field f) rest k)

    field_made : (f : Field) (j : ℕ) (rest : Prototypes) → From j (from_field source f rest) → FieldMakes source fs f j × From (j + made_by_field f) rest
    field_made (Item e) j rest h = exp_made e j rest h
    field_made (Keyed line e d) j rest h =
        two j (made_by e) (made_by d) (from_exp source d rest) rest (exp_made e j (from_exp source d rest) h) (λ k. exp_made d (j + made_by e) rest k)

  mutual
    stat_made : (s : Stat) (j : ℕ) (rest : Prototypes) → From j (from_stat source s rest) → StatMakes source fs s j × From (j + made_by_stat s) rest
    stat_made (Local line names es) j rest h = exps_made es j rest h
    stat_made (LocalFunction line name body) j rest h = function_made body j rest h
    stat_made (Assign line targets es) j rest h =
        two j (made_in targets) (made_in es) (from_exps source es rest) rest (exps_made targets j (from_exps source es rest) h) (λ k. exps_made es (j + made_in targets) rest k)
    stat_made (CallStat line e) j rest h = exp_made e j rest h
    stat_made (Do line block) j rest h = block_made block j rest h
    stat_made (While line e block) j rest h =
        two j (made_by e) (made_in_block block) (from_block source block rest) rest (exp_made e j (from_block source block rest) h) (λ k. block_made block (j + made_by e) rest k)
    stat_made (Repeat line block e) j rest h =
        two j (made_in_block block) (made_by e) (from_exp source e rest) rest (block_made block j (from_exp source e rest) h) (λ k. exp_made e (j + made_in_block block) rest k)
    stat_made (If line arms) j rest h = arms_made arms j rest h
    stat_made (IfElse line arms block) j rest h =
        two j (made_in_arms arms) (made_in_block block) (from_block source block rest) rest (arms_made arms j (from_block source block rest) h)
        (λ k. block_made block (j + made_in_arms arms) rest k)
    stat_made (NumFor line name from limit block) j rest h =
        let second = from_block source block rest in
        let a = exp_made from j (from_exp source limit second) h in
        let b = exp_made limit (j + made_by from) second a.1 in
        let c = block_made block (j + made_by from + made_by limit) rest b.1 in
        ((a.0, (b.0, c.0)), from_same (j + made_by from + made_by limit + made_in_block block) (j + (made_by from + made_by limit + made_in_block block)) rest (omega arith) c.1)
    stat_made (NumForStep line name from limit step block) j rest h =
        let third = from_block source block rest in
        let second = from_exp source step third in
        let a = exp_made from j (from_exp source limit second) h in
        let b = exp_made limit (j + made_by from) second a.1 in
        let c = exp_made step (j + made_by from + made_by limit) third b.1 in
        let d = block_made block (j + made_by from + made_by limit + made_by step) rest c.1 in (
          (a.0, (b.0, (c.0, d.0))),
          from_same (j + made_by from + made_by limit + made_by step + made_in_block block)
              (j + (made_by from + made_by limit + made_by step + made_in_block block)) rest (omega arith) d.1,
        )
    stat_made (GenFor line names es block) j rest h =
        two j (made_in es) (made_in_block block) (from_block source block rest) rest (exps_made es j (from_block source block rest) h) (λ k. block_made block (j + made_in es) rest k)
    stat_made _ j rest h = nothing j rest h

    arms_made : (arms : Arms) (j : ℕ) (rest : Prototypes) → From j (from_arms source arms rest) → ArmsMake source fs arms j × From (j + made_in_arms arms) rest
    arms_made EndArms j rest h = nothing j rest h
    arms_made (MoreArms e block arms) j rest h =
        let second = from_arms source arms rest in
        let a = exp_made e j (from_block source block second) h in
        let b = block_made block (j + made_by e) second a.1 in
        let c = arms_made arms (j + made_by e + made_in_block block) rest b.1 in
        ((a.0, (b.0, c.0)), from_same (j + made_by e + made_in_block block + made_in_arms arms) (j + (made_by e + made_in_block block + made_in_arms arms)) rest (omega arith) c.1)

    stats_made : (ss : Stats) (j : ℕ) (rest : Prototypes) → From j (from_stats source ss rest) → StatsMake source fs ss j × From (j + made_in_stats ss) rest
    stats_made EndStats j rest h = nothing j rest h
    stats_made (MoreStats s ss) j rest h =
        two j (made_by_stat s) (made_in_stats ss) (from_stats source ss rest) rest (stat_made s j (from_stats source ss rest) h) (λ k. stats_made ss (j + made_by_stat s) rest k)

    block_made : (b : Block) (j : ℕ) (rest : Prototypes) → From j (from_block source b rest) → BlockMakes source fs b j × From (j + made_in_block b) rest
    block_made (Falls ss tokens line) j rest h = stats_made ss j rest h
    block_made (Returns ss es tokens line) j rest h =
        two j (made_in_stats ss) (made_in es) (from_exps source es rest) rest (stats_made ss j (from_exps source es rest) h) (λ k. exps_made es (j + made_in_stats ss) rest k)

-- a piece makes as many functions as are counted

module _ (source : Option (List ℕ)) where
  abbrev Counts : (Prototypes → Prototypes) → ℕ → Type 0
  Counts from n = (rest : Prototypes) → length (list_of (from rest)) ≡ n + length (list_of rest)

  none_more : (rest : Prototypes) → length (list_of rest) ≡ 0 + length (list_of rest)
  none_more rest = omega arith

  mutual
    exp_counts : (e : Exp) → Counts (from_exp source e) (made_by e)
    exp_counts (Function line body) = λ rest. omega arith
    exp_counts (Index line object key) = λ rest. let a = exp_counts object (from_exp source key rest) in let b = exp_counts key rest in omega (arith, a, b)
    exp_counts (Call line f es) = λ rest. let a = exp_counts f (from_exps source es rest) in let b = exps_count es rest in omega (arith, a, b)
    exp_counts (Method line object name es) = λ rest. let a = exp_counts object (from_exps source es rest) in let b = exps_count es rest in omega (arith, a, b)
    exp_counts (Unary line op e) = exp_counts e
    exp_counts (Binary line op e d) = λ rest. let a = exp_counts e (from_exp source d rest) in let b = exp_counts d rest in omega (arith, a, b)
    exp_counts (And line e d) = λ rest. let a = exp_counts e (from_exp source d rest) in let b = exp_counts d rest in omega (arith, a, b)
    exp_counts (Or line e d) = λ rest. let a = exp_counts e (from_exp source d rest) in let b = exp_counts d rest in omega (arith, a, b)
    exp_counts (Paren line e) = exp_counts e
    exp_counts (Table line fs) = fields_count fs
    exp_counts _ = none_more

    exps_count : (es : Exps) → Counts (from_exps source es) (made_in es)
    exps_count EndExps = none_more
    exps_count (MoreExps e es) = λ rest. let a = exp_counts e (from_exps source es rest) in let b = exps_count es rest in omega (arith, a, b)

    fields_count : (fs : Fields) → Counts (from_fields source fs) (made_in_fields fs)
    fields_count EndFields = none_more
    fields_count (MoreFields f fs) = λ rest. let a = field_counts f (from_fields source fs rest) in let b = fields_count fs rest in omega (arith, a, b)

    field_counts : (f : Field) → Counts (from_field source f) (made_by_field f)
    field_counts (Item e) = exp_counts e
    field_counts (Keyed line e d) = λ rest. let a = exp_counts e (from_exp source d rest) in let b = exp_counts d rest in omega (arith, a, b)

  mutual
    stat_counts : (s : Stat) → Counts (from_stat source s) (made_by_stat s)
    stat_counts (Local line names es) = exps_count es
    stat_counts (LocalFunction line name body) = λ rest. omega arith
    stat_counts (Assign line targets es) = λ rest. let a = exps_count targets (from_exps source es rest) in let b = exps_count es rest in omega (arith, a, b)
    stat_counts (CallStat line e) = exp_counts e
    stat_counts (Do line block) = block_counts block
    stat_counts (While line e block) = λ rest. let a = exp_counts e (from_block source block rest) in let b = block_counts block rest in omega (arith, a, b)
    stat_counts (Repeat line block e) = λ rest. let a = block_counts block (from_exp source e rest) in let b = exp_counts e rest in omega (arith, a, b)
    stat_counts (If line arms) = arms_count arms
    stat_counts (IfElse line arms block) = λ rest. let a = arms_count arms (from_block source block rest) in let b = block_counts block rest in omega (arith, a, b)
    stat_counts (NumFor line name from limit block) =
        λ rest.
        let a = exp_counts from (from_exp source limit (from_block source block rest)) in
        let b = exp_counts limit (from_block source block rest) in
        let c = block_counts block rest in
        omega (arith, a, b, c)
    stat_counts (NumForStep line name from limit step block) =
        λ rest.
        let a = exp_counts from (from_exp source limit (from_exp source step (from_block source block rest))) in
        let b = exp_counts limit (from_exp source step (from_block source block rest)) in
        let c = exp_counts step (from_block source block rest) in
        let d = block_counts block rest in
        omega (arith, a, b, c, d)
    stat_counts (GenFor line names es block) = λ rest. let a = exps_count es (from_block source block rest) in let b = block_counts block rest in omega (arith, a, b)
    stat_counts _ = none_more

    arms_count : (arms : Arms) → Counts (from_arms source arms) (made_in_arms arms)
    arms_count EndArms = none_more
    arms_count (MoreArms e block arms) =
        λ rest.
        let a = exp_counts e (from_block source block (from_arms source arms rest)) in
        let b = block_counts block (from_arms source arms rest) in
        let c = arms_count arms rest in
        omega (arith, a, b, c)

    stats_count : (ss : Stats) → Counts (from_stats source ss) (made_in_stats ss)
    stats_count EndStats = none_more
    stats_count (MoreStats s ss) = λ rest. let a = stat_counts s (from_stats source ss rest) in let b = stats_count ss rest in omega (arith, a, b)

    block_counts : (b : Block) → Counts (from_block source b) (made_in_block b)
    block_counts (Falls ss tokens line) = stats_count ss
    block_counts (Returns ss es tokens line) = λ rest. let a = stats_count ss (from_exps source es rest) in let b = exps_count es rest in omega (arith, a, b)

pub body_made : FunctionsAreNumbered
body_made source (BodyOf params vararg inner ups line) =
    let all = block_counts source inner none in
    ((block_made source (list_of (from_block source inner none)) inner 0 none refl).0, (omega (arith, all), refl))

-- numbers of functions have 17 bits where a function makes no more
pub near : (source : Option (List ℕ)) (fs : List Prototype) (j : ℕ) (body : Body) → length fs ≤ 2 ^ 17 → IsMade source fs j body → j < 2 ^ 17
near source fs j body few h = let within = slice_get_within fs j (code_of source body) h in omega arith
