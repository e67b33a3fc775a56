-- An expression is placed where its names are found, its constants and functions have their numbers, and it is not too great.
use Rattle.std.proofs.Common.{◌≡◌, ℕ, ◌+◌, ◌<◌, ◌≤◌, Bool, true, false, List, [], ◌∷◌, sym, subst, rules, arith}
use Rattle.tree_core.specs.declared.name.Place.{Place}
use Rattle.tree_core.specs.declared.name.Place.TheVariants.{Unset, Upvalue, GlobalIn, GlobalOf, Local as LocalPlace}
use Rattle.tree_core.specs.declared.name.UpName.{UpName}
use Rattle.tree_core.specs.Tree.{Body, BodyOf, Exp, Int, Str, Function, Var, Index, Call, Method, Unary, Binary, And, Or, Paren, Table, Exps, EndExps, MoreExps, Fields, EndFields, MoreFields, Item, Keyed}
use Rattle.tree_terms.specs.Bodies.{upvalues_of}
use Rattle.code_core.specs.declared.proto.Const.{Const}
use Rattle.code_core.specs.declared.proto.Const.TheVariants.{Int as IntConst, Str as StrConst}
use Rattle.code_of.specs.Expressions.{made_by, made_in, made_in_fields}
use Rattle.code_of.specs.CodeOf.{code_of}
use Rattle.code_of.specs.Constants.{Found}
use Rattle.exp_laws.specs.Setting.{UnderAll}
use Rattle.exp_laws.specs.Placed.{Inner, Captures, NameIsPlaced, IsPlaced, ArePlaced, FieldsArePlaced}
use Rattle.tree_terms.specs.Hidden.{IsNoneOf}
use Rattle.scope_laws.specs.Finding.{PlaceIsThere, CaptureIsThere, CapturesAreThere, ExpFinds, ExpsFind, FieldsFind}
use Rattle.code_bounds.specs.Constants.{Has, NameHas, all_constants}
use Rattle.code_bounds.specs.Functions.{IsMade, ExpMakes, ExpsMake, FieldsMake}
use Rattle.code_bounds.proofs.Constants.{found}
use Rattle.tree_terms.specs.Weight.{weight, weight_of_exps, weight_of_fields}
use Rattle.tree_terms.specs.Asked.{ExpMeets, ExpsMeet, FieldsMeet}
use Rattle.code_bounds.proofs.Counts.{arguments_weigh}
use Rattle.source_laws.proofs.Around.{Around, constants_of, functions_of}
use Rattle.stat_laws.proofs.Raised.{upvalues_same}

-- every expression weighs something
some_weight : (e : Exp) → 1 ≤ weight e
some_weight (Function line (BodyOf params vararg inner ups at)) = omega arith
some_weight (Call line f es) = let some = some_weight f in omega (arith, some)
some_weight _ = omega arith

module _ (x : Around) where
  pub constant_found : (c : Const) → Has (constants_of x) c → Found (constants_of x) c
  constant_found c h = found (constants_of x) c x.constants_few h

  pub inner_placed : (body : Body) (j : ℕ) → IsMade x.source (functions_of x) j body → j + 1 ≤ x.most → Inner x.setting j body
  inner_placed body j m b =
      record {
        prototype = code_of x.source body;
        there = m;
        near = let few = x.made in omega (arith, b, few);
        upvalues = upvalues_same x.source body;
        alike = λ n lt. let none_asked = x.none_asked in absurd (omega (arith, lt, none_asked));
      }

  capture_placed : (in_stack : Bool) (n t : ℕ) → CaptureIsThere x.hidden t x.ups in_stack n → in_stack ≡ true → (n < t) × (IsNoneOf n x.setting.hidden.integers × (UnderAll n x.setting.hidden.free_from × (x.setting.hidden.celled ≡ true)))
  capture_placed true n t h e = (h.0, (x.sees n h.1, (subst (UnderAll n) (sym x.all_hold) tt, x.celled)))
  capture_placed false n t h e = absurd (search rules)

  pub captures_placed : (us : List UpName) (t : ℕ) → CapturesAreThere x.hidden t x.ups us → Captures x.setting.hidden us t
  captures_placed [] t h = tt
  captures_placed (u ∷ us) t h = (capture_placed u.in_stack u.index t h.0, captures_placed us t h.1)

  name_placed : (p : Place) (text : List ℕ) (t : ℕ) → PlaceIsThere x.hidden t x.ups p → NameHas (constants_of x) p text → NameIsPlaced x.setting p text t
  name_placed Unset text t f h = f
  name_placed (LocalPlace n) text t f h = f.0
  name_placed (Upvalue u) text t f h = let few = x.few in omega (arith, f, few)
  name_placed (GlobalIn n) text t f h = (f.0, constant_found (StrConst text) h)
  name_placed (GlobalOf u) text t f h = (let few = x.few in omega (arith, f, few), constant_found (StrConst text) h)

  mutual
    pub exp_placed : (e : Exp) (t j : ℕ) → ExpFinds e x.hidden t x.ups → ExpMeets (all_constants (constants_of x)) e → ExpMakes x.source (functions_of x) e j → j + made_by e ≤ x.most → weight e ≤ x.heavy → IsPlaced x.setting e t j
    exp_placed (Int line z) t j f h m b w = λ great. constant_found (IntConst z) (h great)
    exp_placed (Str line bytes) t j f h m b w = constant_found (StrConst bytes) h
    exp_placed (Function line body) t j f h m b w = (inner_placed body j m b, captures_placed (upvalues_of body) t f.1)
    exp_placed (Var line name) t j f h m b w = name_placed name.place name.text t f h
    exp_placed (Index line object key) t j f h m b w =
        (exp_placed object t j f.0 h.0 m.0 (omega (arith, b)) (omega (arith, w)), exp_placed key t (j + made_by object) f.1 h.1 m.1 (omega (arith, b)) (omega (arith, w)))
    exp_placed (Call line called es) t j f h m b w =
        let arguments = arguments_weigh es in
        (exp_placed called t j f.0 h.0 m.0 (omega (arith, b)) (omega (arith, w)), exps_placed es t (j + made_by called) f.1 h.1 m.1 (omega (arith, b)) (omega (arith, w, arguments)))
    exp_placed (Method line object name es) t j f h m b w =
        let arguments = arguments_weigh es in (
          exp_placed object t j f.0 h.0 m.0 (omega (arith, b)) (omega (arith, w)),
          (constant_found (StrConst name.text) h.1.0, exps_placed es t (j + made_by object) f.1 h.1.1 m.1 (omega (arith, b)) (omega (arith, w, arguments))),
        )
    exp_placed (Unary line op e) t j f h m b w = exp_placed e t j f h m b (omega (arith, w))
    exp_placed (Binary line op e d) t j f h m b w =
        (exp_placed e t j f.0 h.0 m.0 (omega (arith, b)) (omega (arith, w)), exp_placed d t (j + made_by e) f.1 h.1 m.1 (omega (arith, b)) (omega (arith, w)))
    exp_placed (And line e d) t j f h m b w =
        (exp_placed e t j f.0 h.0 m.0 (omega (arith, b)) (omega (arith, w)), exp_placed d t (j + made_by e) f.1 h.1 m.1 (omega (arith, b)) (omega (arith, w)))
    exp_placed (Or line e d) t j f h m b w =
        (exp_placed e t j f.0 h.0 m.0 (omega (arith, b)) (omega (arith, w)), exp_placed d t (j + made_by e) f.1 h.1 m.1 (omega (arith, b)) (omega (arith, w)))
    exp_placed (Paren line e) t j f h m b w = exp_placed e t j f h m b (omega (arith, w))
    exp_placed (Table line fs) t j f h m b w = fields_placed fs 0 t j f h m b (omega (arith, w))
    exp_placed _ t j f h m b w = tt

    pub exps_placed : (es : Exps) (t j : ℕ) → ExpsFind es x.hidden t x.ups → ExpsMeet (all_constants (constants_of x)) es → ExpsMake x.source (functions_of x) es j → j + made_in es ≤ x.most → weight_of_exps es ≤ x.heavy → ArePlaced x.setting es t j
    exps_placed EndExps t j f h m b w = tt
    exps_placed (MoreExps e es) t j f h m b w =
        (exp_placed e t j f.0 h.0 m.0 (omega (arith, b)) (omega (arith, w)), exps_placed es t (j + made_by e) f.1 h.1 m.1 (omega (arith, b)) (omega (arith, w)))

    fields_placed : (fs : Fields) (items t j : ℕ) → FieldsFind fs x.hidden t x.ups → FieldsMeet (all_constants (constants_of x)) fs → FieldsMake x.source (functions_of x) fs j → j + made_in_fields fs ≤ x.most → items + weight_of_fields fs ≤ x.heavy → FieldsArePlaced x.setting fs items t j
    fields_placed EndFields items t j f h m b w = tt
    fields_placed (MoreFields (Item e) fs) items t j f h m b w =
        let some = some_weight e in
        let light = x.light in (
          exp_placed e t j f.0 h.0 m.0 (omega (arith, b)) (omega (arith, w)),
          (omega (arith, w, light), fields_placed fs (items + 1) t (j + made_by e) f.1 h.1 m.1 (omega (arith, b)) (omega (arith, w, some))),
        )
    fields_placed (MoreFields (Keyed line e d) fs) items t j f h m b w =
        let place : j + (made_by e + made_by d) ≡ j + made_by e + made_by d = omega arith in (
          exp_placed e t j f.0.0 h.0.0 m.0.0 (omega (arith, b)) (omega (arith, w)),
          (
            exp_placed d t (j + made_by e) f.0.1 h.0.1 m.0.1 (omega (arith, b)) (omega (arith, w)),
            fields_placed fs items t (j + made_by e + made_by d) f.1 h.1 (subst (FieldsMake x.source (functions_of x) fs) place m.1) (omega (arith, b)) (omega (arith, w)),
          ),
        )
