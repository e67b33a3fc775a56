-- Where a block ends the scopes of its variables end.
use Rattle.std.proofs.Common.{arith, ◌≡◌, ℕ, zero, suc, ◌+◌, ◌-◌, ◌<◌, ◌≤◌, Bool, None, List, [], ◌∷◌, ◌++◌, length, map, Some, refl, sym, ap, ap₂, ◌∙◌}
use Rattle.std.specs.Prelude.{slice_index_or, slice_set}
use Rattle.tree_core.specs.declared.name.Name.{Name}
use Rattle.tree_core.specs.declared.name.Declared.{Declared}
use Rattle.tree_core.specs.Tree.{Stats, EndStats, MoreStats, Stat, Local}
use Rattle.code_core.specs.declared.proto.Const.{Const}
use Rattle.code_core.specs.declared.proto.LocVar.{LocVar}
use Rattle.code_of.specs.declared.leaving.Leaving.{Leaving}
use Rattle.code_of.specs.Expressions.{exps_code}
use Rattle.code_of.specs.Levels.{made_by_stat, closing_after}
use Rattle.tree_terms.specs.Levels.{level_after}
use Rattle.code_of.specs.Sizes.{stat_size}
use Rattle.code_of.specs.Variables.{variables, hidden, names_of, declared_by, within_stat, within_stats}
use Rattle.code_parts.specs.declared.variables.Variable.{Variable}
use Rattle.code_parts.specs.Scopes.{begun, over, ended, hidden_from, ended_from, finished, begun_by, begun_in}

-- all scopes of a list

pub ended_over : (place : ℕ) (vs : List LocVar) → ended_from zero place (map over vs) ≡ map over vs
ended_over place [] = refl
ended_over place (v ∷ vs) = ap (λ xs. over v ∷ xs) (ended_over place vs)

pub ended_append : (place : ℕ) (xs ys : List Variable) → ended_from zero place (xs ++ ys) ≡ ended_from zero place xs ++ ended_from zero place ys
ended_append place [] ys = refl
ended_append place (x ∷ xs) ys = ap (λ zs. ended place x ∷ zs) (ended_append place xs ys)

pub over_append : (xs ys : List LocVar) → map over (xs ++ ys) ≡ map over xs ++ map over ys
over_append [] ys = refl
over_append (x ∷ xs) ys = ap (λ zs. over x ∷ zs) (over_append xs ys)

-- one by one

pub passed : (n place : ℕ) (vs : List Variable) → length vs ≤ n → ended_from n place vs ≡ vs
passed n place [] h = refl
passed zero place (v ∷ vs) h = absurd (omega (arith, h))
passed (suc n) place (v ∷ vs) h = ap (λ xs. v ∷ xs) (passed n place vs (omega (arith, h)))

one_ended : (n place : ℕ) (vs : List Variable) (v : Variable) → n < length vs → v ≡ slice_index_or vs n v → ended_from (suc n) place (slice_set vs n (ended place v)) ≡ ended_from n place vs
one_ended n place [] v h is = absurd (omega (arith, h))
one_ended zero place (x ∷ vs) v h is = ap (λ w. ended place w ∷ ended_from zero place vs) is
one_ended (suc n) place (x ∷ vs) v h is = ap (λ xs. x ∷ xs) (one_ended n place vs v (omega (arith, h)) is)

pub next_ended : (n place : ℕ) (vs : List Variable) (v : Variable) → n < length vs → v ≡ slice_index_or vs n v → ended_from (n + 1) place (slice_set vs n (ended place v)) ≡ ended_from n place vs
next_ended n place vs v h is =
    let more_one : n + 1 ≡ suc n = omega arith in
    ap (λ k. ended_from k place (slice_set vs n (ended place v))) more_one ∙ one_ended n place vs v h is

hidden_first : (left start : ℕ) → 0 < left → hidden_from left start ≡ begun None start ∷ hidden_from (left - 1) start
hidden_first zero start h = absurd (omega (arith, h))
hidden_first (suc n) start h = let e : suc n - 1 ≡ n = omega arith in rw e refl

pub hidden_next : (n k start : ℕ) → k < n → hidden_from (n - k) start ≡ begun None start ∷ hidden_from (n - (k + 1)) start
hidden_next n k start h =
    let e : n - k - 1 ≡ n - (k + 1) = omega arith in
    hidden_first (n - k) start (omega (arith, h)) ∙ ap (λ m. begun None start ∷ hidden_from m start) e

-- those behind some that go on
pub ended_behind : (place : ℕ) (xs ys : List Variable) → ended_from (length xs) place (xs ++ ys) ≡ xs ++ ended_from zero place ys
ended_behind place [] ys = refl
ended_behind place (x ∷ xs) ys = ap (λ zs. x ∷ zs) (ended_behind place xs ys)

pub finished_over : (vs : List LocVar) → map finished (map over vs) ≡ vs
finished_over [] = refl
finished_over (v ∷ vs) = ap (λ xs. v ∷ xs) (finished_over vs)

locals_ended : (names : List Declared) (start place : ℕ) → ended_from zero place (map (λ d. begun (Some d.name.text) start) names) ≡ map over (variables (names_of names) start place)
locals_ended [] start place = refl
locals_ended (d ∷ names) start place = ap (λ xs. over (record { name = Some d.name.text; start = start; end = place }) ∷ xs) (locals_ended names start place)

pub names_ended : (names : List Name) (start place : ℕ) → ended_from zero place (map (λ name. begun (Some name.text) start) names) ≡ map over (variables names start place)
names_ended [] start place = refl
names_ended (name ∷ names) start place = ap (λ xs. over (record { name = Some name.text; start = start; end = place }) ∷ xs) (names_ended names start place)

pub hidden_ended : (n start place : ℕ) → ended_from zero place (hidden_from n start) ≡ map over (hidden n start place)
hidden_ended zero start place = refl
hidden_ended (suc n) start place = ap (λ xs. over (record { name = None; start = start; end = place }) ∷ xs) (hidden_ended n start place)

-- the hidden variables of a loop behind whose start everything has ended, and the parameters of a function

pub loop_ended : (before : List Variable) (n start place : ℕ) (inner : List LocVar) → ended_from (length before) place (before ++ (hidden_from n start ++ map over inner)) ≡ before ++ map over (hidden n start place ++ inner)
loop_ended before n start place inner =
    ended_behind place before (hidden_from n start ++ map over inner)
    ∙ ap (λ vs. before ++ vs) (ended_append place (hidden_from n start) (map over inner) ∙ ap₂ (λ xs ys. xs ++ ys) (hidden_ended n start place) (ended_over place inner) ∙ sym (over_append (hidden n start place) inner))

pub body_ended : (params : List Name) (place : ℕ) (inner : List LocVar) → ended_from zero place (map (λ name. begun (Some name.text) 0) params ++ map over inner) ≡ map over (variables params 0 place ++ inner)
body_ended params place inner =
    ended_append place (map (λ name. begun (Some name.text) 0) params) (map over inner)
    ∙ ap₂ (λ xs ys. xs ++ ys) (names_ended params 0 place) (ended_over place inner)
    ∙ sym (over_append (variables params 0 place) inner)

module _ (constants : List Const) (back : Leaving) where
  declared_ended : (s : Stat) (t j pc place : ℕ) → ended_from zero place (begun_by constants back s t j pc) ≡ map over (declared_by constants back s t j pc place)
  declared_ended (Local line names es) t j pc place = locals_ended names (pc + length (exps_code constants es (Some (length names)) t j line)) place
  declared_ended _ t j pc place = refl

  pub stats_ended : (ss : Stats) (closing : Bool) (t j pc place : ℕ) → ended_from zero place (begun_in constants back ss closing t j pc) ≡ map over (within_stats constants back ss closing t j pc place)
  stats_ended EndStats closing t j pc place = refl
  stats_ended (MoreStats s ss) closing t j pc place =
      let own = begun_by constants back s t j pc in
      let inner = within_stat constants back s closing t j pc in
      let k = j + made_by_stat s in
      let next = pc + stat_size constants back s closing t j in
      let rest = begun_in constants back ss (closing_after s closing) (level_after s t) k next in
      let later = within_stats constants back ss (closing_after s closing) (level_after s t) k next place in
      ended_append place own (map over inner ++ rest)
      ∙ ap₂ (λ xs ys. xs ++ ys) (declared_ended s t j pc place)
      (ended_append place (map over inner) rest ∙ ap₂ (λ xs ys. xs ++ ys) (ended_over place inner) (stats_ended ss (closing_after s closing) (level_after s t) k next place) ∙ sym (over_append inner later))
      ∙ sym (over_append (declared_by constants back s t j pc place) (inner ++ later))

  -- where others go on around the block
  pub block_ended : (before : List Variable) (ss : Stats) (closing : Bool) (t j pc place : ℕ) → ended_from (length before) place (before ++ begun_in constants back ss closing t j pc) ≡ before ++ map over (within_stats constants back ss closing t j pc place)
  block_ended before ss closing t j pc place = ended_behind place before (begun_in constants back ss closing t j pc) ∙ ap (λ vs. before ++ vs) (stats_ended ss closing t j pc place)

  -- and with variables in front of the block's own that end with them, as those of a loop
  pub front_ended : (before own : List Variable) (over_own : List LocVar) (ss : Stats) (closing : Bool) (t j pc place : ℕ) → ended_from zero place own ≡ map over over_own → ended_from (length before) place (before ++ (own ++ begun_in constants back ss closing t j pc)) ≡ before ++ map over (over_own ++ within_stats constants back ss closing t j pc place)
  front_ended before own over_own ss closing t j pc place is =
      let begun_there = begun_in constants back ss closing t j pc in
      ended_behind place before (own ++ begun_there)
      ∙ ap (λ vs. before ++ vs) (ended_append place own begun_there ∙ ap₂ (λ xs ys. xs ++ ys) is (stats_ended ss closing t j pc place) ∙ sym (over_append over_own (within_stats constants back ss closing t j pc place)))
