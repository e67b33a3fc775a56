-- What the pieces of a function under way share.
use Rattle.std.proofs.Common.{◌≡◌, ℕ, ◌<◌, ◌≤◌, ◌^◌, Bool, true, List, [], length, Option}
use Rattle.code_core.specs.declared.proto.Const.{Const}
use Rattle.code_core.specs.Prototype.{Prototype, list_of}
use Rattle.exp_laws.specs.Setting.{Setting, hiding}
use Rattle.tree_terms.specs.Hidden.{IsNoneOf}
use Rattle.scope_laws.specs.Finding.{three_hidden, four_hidden}

-- a function that has `ups` upvalues, where some locals are hidden; nothing is asked of its inner functions, of which it makes at most `most`
pub record Around : Type 0 where
  pub source : Option (List ℕ)
  pub setting : Setting
  pub vararg : Bool
  pub hidden : List ℕ
  pub ups : ℕ
  pub most : ℕ
  pub heavy : ℕ
  pub few : ups ≤ 255
  pub made : most ≤ 2 ^ 17
  pub light : heavy < 2 ^ 33
  pub none_asked : setting.bound ≡ 0
  pub constants_few : length setting.code.own.constants ≤ 2 ^ 25
  pub sees : (n : ℕ) → IsNoneOf n hidden → IsNoneOf n setting.hidden.integers
  pub all_hold : setting.hidden.free_from ≡ []
  pub celled : setting.hidden.celled ≡ true

abbrev pub constants_of : Around → List Const
constants_of x = x.setting.code.own.constants

abbrev pub functions_of : Around → List Prototype
functions_of x = list_of x.setting.code.inner

abbrev pub stack_of : Around → ℕ
stack_of x = x.setting.code.own.stack

-- in the block of a numeric `for` that begins where t locals are in scope
abbrev pub counting : Around → (t : ℕ) → Around
counting x t = record x {
  setting = hiding x.setting t;
  hidden = three_hidden t x.hidden;
  sees = λ n h. (h.0, (h.1.0, (h.1.1.0, x.sees n h.1.1.1)));
}

-- and in that of a generic one, of which nothing more is hidden in the setting
abbrev pub iterating : Around → (t : ℕ) → Around
iterating x t = record x {
  hidden = four_hidden t x.hidden;
  sees = λ n h. x.sees n h.1.1.1.1;
}
