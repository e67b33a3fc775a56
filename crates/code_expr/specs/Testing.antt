-- Conditions as they are written, form by form.
use Rattle.std.specs.Prelude.{ℕ, ◌+◌, Bool, true, false, cond, not, List, ◌++◌, length}
use Rattle.tree_core.specs.Tree.{Exp, True, Unary, Binary, And, Or, Paren}
use Rattle.code_core.specs.declared.proto.Const.{Const}
use Rattle.code_of.specs.Coded.{Coded}
use Rattle.code_of.specs.Truths.{is_not, is_compared, line_of, load_truth}
use Rattle.code_of.specs.Conditions.{test_code, keep_code}
use Rattle.code_of.specs.Expressions.{made_by, exp_code}
use Rattle.code_of.specs.Operations.{constant_in, operation_by}
use Rattle.code_emitter.specs.declared.comparisons.Comparison.{Comparison}
use Rattle.code_emitter.specs.Comparing.{registers_test, number_test, constant_test}
use Rattle.code_emitter.specs.Leading.{Opened}
use Rattle.code_emitter.specs.Listing.{Listing}

-- expressions that are tested by their values, whatever these are
abbrev pub is_valued : Exp → Bool
is_valued (True line) = false
is_valued (Unary line op e) = not (is_not op)
is_valued (Binary line op e d) = false
is_valued (And line e d) = false
is_valued (Or line e d) = false
is_valued (Paren line e) = false
is_valued _ = true

-- a comparison of two expressions
abbrev pub compared_code : List Const → Comparison → (e d : Exp) → (wanted : Bool) → (ahead t j line : ℕ) → List Coded
compared_code constants c e d wanted ahead t j line =
    let k = cond c.wanted (not wanted) wanted in
    operation_by (constant_in constants c.op d) c.op e d (exp_code constants e t j 2) (exp_code constants d (t + 1) (j + made_by e) 2) t
    (constant_test k ahead line) (registers_test c k ahead line) (number_test c k ahead line)

-- how far past the second operand the first one leads, where its truth is `decides`
abbrev pub far : (decides wanted : Bool) → (ahead : ℕ) → ℕ
far decides wanted ahead = cond decides (cond wanted 0 ahead) (cond wanted ahead 0)

-- `and` and `or`, of which the first operand decides where its truth is `decides`
abbrev pub either_test : List Const → (decides : Bool) → (e d : Exp) → (wanted : Bool) → (ahead t j : ℕ) → List Coded
either_test constants decides e d wanted ahead t j =
    let second = test_code constants d wanted ahead t (j + made_by e) in
    test_code constants e (not decides) (length second + far decides wanted ahead) t j ++ second

-- the code of a condition stands behind, of which the jumps at these places lead away
abbrev pub Tests : Listing → Listing → Exp → (wanted : Bool) → (t : ℕ) → List ℕ → Type 0
Tests before after e wanted t places = Opened before after (λ ahead. test_code before.constants e wanted ahead t before.made) (made_by e) places

-- first operands that are no `and`, no `or` and have no brackets
abbrev pub is_plain : Exp → Bool
is_plain (And line e d) = false
is_plain (Or line e d) = false
is_plain (Paren line e) = false
is_plain _ = true

-- those of them that are comparisons or `not`
abbrev pub is_truth : Exp → Bool
is_truth (Unary line op e) = is_not op
is_truth (Binary line op e d) = is_compared op
is_truth _ = false

abbrev pub kept_truth : List Const → Exp → (k : Bool) → (ahead t j : ℕ) → List Coded
kept_truth constants e k ahead t j = test_code constants e k 2 t j ++ load_truth k ahead t (line_of e)

-- an `and` or `or` whose value is kept where its truth is k; its first operand decides where its truth is `decides`, and is only tested where that value is not wanted
abbrev pub either_keep : List Const → (decides : Bool) → (e d : Exp) → (k : Bool) → (ahead t j : ℕ) → List Coded
either_keep constants decides e d k ahead t j =
    let second = keep_code constants d k ahead t (j + made_by e) in
    cond decides (cond k (keep_code constants e true (length second + ahead) t j) (test_code constants e false (length second) t j))
    (cond k (test_code constants e true (length second) t j) (keep_code constants e false (length second + ahead) t j)) ++ second

-- and one whose value is wanted
abbrev pub either_value : List Const → (decides : Bool) → (e d : Exp) → (t j : ℕ) → List Coded
either_value constants decides e d t j =
    let second = exp_code constants d t (j + made_by e) 2 in
    keep_code constants e decides (length second) t j ++ second

-- the code of a first operand stands behind, of which the jumps at these places lead away with its value in register t
abbrev pub Keeps : Listing → Listing → Exp → (k : Bool) → (t : ℕ) → List ℕ → Type 0
Keeps before after e k t places = Opened before after (λ ahead. keep_code before.constants e k ahead t before.made) (made_by e) places
