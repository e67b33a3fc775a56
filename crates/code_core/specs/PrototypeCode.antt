-- How the logic stores prototypes: their parts in a row, each followed by the functions within.
use Rattle.std.specs.Prelude.{◌≡◌, ℕ, ℤ, Bool, List, [], ◌∷◌, Option, Some, None, refl}
use Rattle.std.specs.Coded.{Coded, code_by, coded×, coded_ℕ, coded_ℤ, coded_bool, coded_list, coded_option}
use mathlib.Core.Path.{ap, ◌∙◌}
use Rattle.code_core.specs.declared.instruction.Instruction.{Instruction}
use Rattle.code_core.specs.declared.proto.Const.{Const}
use Rattle.code_core.specs.declared.proto.UpDesc.{UpDesc}
use Rattle.code_core.specs.declared.proto.AbsLine.{AbsLine}
use Rattle.code_core.specs.declared.proto.LocVar.{LocVar}
use Rattle.code_core.specs.contracts.instruction.Instruction as instruction
use Rattle.code_core.specs.contracts.proto.Const as constant
use Rattle.code_core.specs.contracts.proto.UpDesc as upvalue
use Rattle.code_core.specs.contracts.proto.AbsLine as line
use Rattle.code_core.specs.contracts.proto.LocVar as variable
use Rattle.code_core.specs.Prototype.{Parts, Prototypes, none, more, Prototype}

abbrev name_code : Coded (Option (List ℕ))
name_code = coded_option (coded_list coded_ℕ)

abbrev Head : Type 0
Head = Option (List ℕ) × ℕ × ℕ × ℕ × Bool × ℕ

abbrev head_code : Coded Head
head_code =
    code_by (Option (List ℕ) × (ℕ × (ℕ × (ℕ × (Bool × ℕ)))))
    (coded× name_code (coded× coded_ℕ (coded× coded_ℕ (coded× coded_ℕ (coded× coded_bool coded_ℕ)))))
    (λ h. (h.0, (h.1, (h.2, (h.3, (h.4, h.5))))))
    (λ p. (p.0, p.1.0, p.1.1.0, p.1.1.1.0, p.1.1.1.1.0, p.1.1.1.1.1))
    (λ _. refl)

abbrev Lists : Type 0
Lists = List Instruction × (List Const × (List UpDesc × (List ℤ × (List AbsLine × (List LocVar × List (Option (List ℕ)))))))

abbrev lists_code : Coded Lists
lists_code =
    coded× (coded_list instruction.the_row.coded) (coded× (coded_list constant.the_row.coded) (coded× (coded_list upvalue.the_row.coded)
    (coded× (coded_list coded_ℤ) (coded× (coded_list line.the_row.coded) (coded× (coded_list variable.the_row.coded) (coded_list name_code))))))

abbrev parts_code : Coded Parts
parts_code =
    code_by (Head × Lists) (coded× head_code lists_code)
    (λ p. ((p.source, p.line_defined, p.last_line, p.params, p.vararg, p.stack), (p.code, (p.constants, (p.upvalues, (p.line_info, (p.abs_lines, (p.locals, p.up_names))))))))
    (λ c. record {
      source = c.0.0;
      line_defined = c.0.1;
      last_line = c.0.2;
      params = c.0.3;
      vararg = c.0.4;
      stack = c.0.5;
      code = c.1.0;
      constants = c.1.1.0;
      upvalues = c.1.1.1.0;
      line_info = c.1.1.1.1.0;
      abs_lines = c.1.1.1.1.1.0;
      locals = c.1.1.1.1.1.1.0;
      up_names = c.1.1.1.1.1.1.1;
    })
    (λ _. refl)

-- each function's parts, then what is in it, then a mark that it ends, in front of what follows
abbrev pub row : Prototypes → List (Option Parts) → List (Option Parts)
row none rest = None ∷ rest
row (more own inner next) rest = Some own ∷ row inner (row next rest)

abbrev pub put : Option Parts → List Prototypes → List Prototypes
put None read = none ∷ read
put (Some own) (inner ∷ (next ∷ read)) = more own inner next ∷ read
put (Some own) read = read

-- a row read from its end
abbrev pub read : List (Option Parts) → List Prototypes
read [] = []
read (item ∷ items) = put item (read items)

abbrev pub first : List Prototypes → Prototypes
first [] = none
first (p ∷ ps) = p

pub read-row : (p : Prototypes) (rest : List (Option Parts)) → read (row p rest) ≡ p ∷ read rest
read-row none rest = refl
read-row (more own inner next) rest =
    ap (put (Some own)) (read-row inner (row next rest) ∙ ap (λ ps. inner ∷ ps) (read-row next rest))

abbrev prototypes_code : Coded Prototypes
prototypes_code =
    code_by (List (Option Parts)) (coded_list (coded_option parts_code)) (λ p. row p []) (λ items. first (read items)) (λ p. ap first (read-row p []))

abbrev pub prototype_code : Coded Prototype
prototype_code =
    code_by (Parts × Prototypes) (coded× parts_code prototypes_code) (λ p. (p.own, p.inner)) (λ c. record { own = c.0; inner = c.1 }) (λ _. refl)
