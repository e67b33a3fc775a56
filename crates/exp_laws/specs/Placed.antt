-- What is assumed of an expression where `size` locals are in scope and j functions of its function are made before it: names are in scope, fields
-- are wide enough, constants and inner functions have their numbers.
use Rattle.std.specs.Prelude.{◌≡◌, ℕ, ◌+◌, ◌<◌, ◌^◌, true, List, [], ◌∷◌, map, Some, slice_get}
use Rattle.tree_core.specs.declared.name.Place.{Place}
use Rattle.tree_core.specs.declared.name.Place.TheVariants.{Unset, Upvalue, GlobalIn, GlobalOf, Local as LocalPlace}
use Rattle.tree_core.specs.declared.name.UpName.{UpName}
use Rattle.tree_core.specs.Tree.{Body, Exp, Nil, True, False, Int, Str, Vararg, Function, Var, Index, Call, Method, Unary, Binary, And, Or, Paren, Table, Exps, EndExps, MoreExps, Fields, EndFields, MoreFields, Item, Keyed}
use Rattle.tree_terms.specs.Bodies.{upvalues_of}
use Rattle.code_core.specs.declared.proto.Const.TheVariants.{Str as StrConst}
use Rattle.code_core.specs.Prototype.{Prototype, list_of}
use Rattle.tree_terms.specs.Hidden.{IsNoneOf}
use Rattle.code_of.specs.Constants.{Found, IsLoaded}
use Rattle.code_of.specs.Expressions.{made_by}
use Rattle.code_of.specs.CodeOf.{upvalue}
use Rattle.exp_laws.specs.Setting.{Hidden, UnderAll, Setting, InnerAlike}

-- locals that a function captures are in scope, and no hidden ones, nor in a scope of which no local is captured; and its own function's locals may have cells
abbrev pub Captures : (hidden : Hidden) → List UpName → (size : ℕ) → Type 0
Captures hidden [] size = Unit {0}
Captures hidden (u ∷ us) size = (u.in_stack ≡ true → (u.index < size) × (IsNoneOf u.index hidden.integers × (UnderAll u.index hidden.free_from × (hidden.celled ≡ true)))) × Captures hidden us size

-- the inner function of a number has a body's upvalues, and means it
pub record Inner (S : Setting) (j : ℕ) (body : Body) : Type 0 where
  pub prototype : Prototype
  pub there : slice_get (list_of S.code.inner) j ≡ Some prototype
  pub near : j < 2 ^ 17
  pub upvalues : prototype.own.upvalues ≡ map upvalue (upvalues_of body)
  pub alike : (n : ℕ) → n < S.bound → InnerAlike S n body prototype

module _ (S : Setting) where
  abbrev pub NameIsPlaced : Place → List ℕ → (size : ℕ) → Type 0
  NameIsPlaced Unset text size = ⊥
  NameIsPlaced (LocalPlace n) text size = n < size
  NameIsPlaced (Upvalue u) text size = u < 2 ^ 8
  NameIsPlaced (GlobalIn n) text size = (n < size) × Found S.code.own.constants (StrConst text)
  NameIsPlaced (GlobalOf u) text size = (u < 2 ^ 8) × Found S.code.own.constants (StrConst text)

  abbrev mutual
    pub IsPlaced : Exp → (size j : ℕ) → Type 0
    IsPlaced (Nil line) size j = Unit {0}
    IsPlaced (True line) size j = Unit {0}
    IsPlaced (False line) size j = Unit {0}
    IsPlaced (Int line z) size j = IsLoaded S.code.own.constants z
    IsPlaced (Str line bytes) size j = Found S.code.own.constants (StrConst bytes)
    IsPlaced (Vararg line) size j = Unit {0}
    IsPlaced (Function line body) size j = Inner S j body × Captures S.hidden (upvalues_of body) size
    IsPlaced (Var line name) size j = NameIsPlaced name.place name.text size
    IsPlaced (Index line object key) size j = IsPlaced object size j × IsPlaced key size (j + made_by object)
    IsPlaced (Call line f es) size j = IsPlaced f size j × ArePlaced es size (j + made_by f)
    IsPlaced (Method line object name es) size j = IsPlaced object size j × (Found S.code.own.constants (StrConst name.text) × ArePlaced es size (j + made_by object))
    IsPlaced (Unary line op e) size j = IsPlaced e size j
    IsPlaced (Binary line op e d) size j = IsPlaced e size j × IsPlaced d size (j + made_by e)
    IsPlaced (And line e d) size j = IsPlaced e size j × IsPlaced d size (j + made_by e)
    IsPlaced (Or line e d) size j = IsPlaced e size j × IsPlaced d size (j + made_by e)
    IsPlaced (Paren line e) size j = IsPlaced e size j
    IsPlaced (Table line fs) size j = FieldsArePlaced fs 0 size j

    pub ArePlaced : Exps → (size j : ℕ) → Type 0
    ArePlaced EndExps size j = Unit {0}
    ArePlaced (MoreExps e es) size j = IsPlaced e size j × ArePlaced es size (j + made_by e)

    -- the number of the items before is a field of 8 bits, and of 25 more behind
    pub FieldsArePlaced : Fields → (items size j : ℕ) → Type 0
    FieldsArePlaced EndFields items size j = Unit {0}
    FieldsArePlaced (MoreFields (Item e) fs) items size j = IsPlaced e size j × ((items < 2 ^ 33) × FieldsArePlaced fs (items + 1) size (j + made_by e))
    FieldsArePlaced (MoreFields (Keyed line e d) fs) items size j =
        IsPlaced e size j × (IsPlaced d size (j + made_by e) × FieldsArePlaced fs items size (j + made_by e + made_by d))
