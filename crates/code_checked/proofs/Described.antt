-- A function whose parts fit keeps the rules on functions: its sizes, its lines and names, and that a chunk can hold it.
use Rattle.std.proofs.Common.{cond, ◌≡◌, ℕ, suc, ◌+◌, ◌<◌, ◌^◌, Bool, true, false, ◌&&◌, ◌||◌, ◌==◌, List, [], ◌∷◌, length, map, Option, Some, None, is_some, is_none, refl, sym, ap, ap₂, ◌∙◌, arith, lt-ltb, le-leb, eq-eqb}
use Rattle.std.specs.Prelude.{pos, nat_eq}
use Rattle.std.specs.List.{list_all}
use Rattle.tree_core.specs.declared.name.Name.{Name}
use Rattle.tree_core.specs.declared.name.UpName.{UpName}
use Rattle.tree_core.specs.Tree.{Block, BodyOf}
use Rattle.code_core.specs.declared.instruction.Instruction.{Instruction}
use Rattle.code_core.specs.Prototype.{Parts, Prototype, Prototypes, none, more, count}
use Rattle.code_core.specs.Writable.{constant_fits, upvalue_fits, local_fits, greatest_depth, number_fits, name_fits, change_fits, line_fits, lists_fit, entries_fit, parts_fit, all_fit, depth}
use Rattle.code_core.specs.Check.{at, rules, AllHold, is_sized, none_or_one_per, lines_from, is_line, CodeIsChecked, AllChecked}
use Rattle.code_of.specs.Coded.{Coded, words, lines}
use Rattle.code_of.specs.CodeOf.{body_code, changes, far_lines, where_known, upvalue, last_line_of, variables_of}
use Rattle.tree_activation.specs.Activation.{line_of_end}
use Rattle.code_checked.specs.Written.{UpvaluesFit, BlockIsWritten, BodyIsWritten}
use Rattle.code_checked.proofs.ConstantsFit.{all_fit_in, block_fits}
use Rattle.code_checked.proofs.CodeLines.{all_lines, body_lines, block_line}
use Rattle.code_checked.proofs.LocalsFit.{body_locals}
use Rattle.code_checked.specs.Near.{BlockIsNear, FunctionIsNear}
use Rattle.code_checked.proofs.Bodies.{function, whole_room}
use Rattle.code_checked.proofs.Places.{places_hold, code_there, code_fits, length_words}
use Rattle.code_of.proofs.Lines.{lines_back, lines_are_lines, changes_fit, length_changes, length_far, far_fit}
use Rattle.list_laws.proofs.Tests.{or_right}

-- all rules but for those on the functions within
pub record Keeps (source : Option (List ℕ)) (p : Prototype) : Type 0 where
  pub sized : is_sized p ≡ true
  pub places : (pc : ℕ) (w : Instruction) → at p pc ≡ Some w → AllHold (rules p pc w)
  pub lined : none_or_one_per (length p.own.line_info) (length p.own.code) ≡ true
  pub read_back : list_all is_line (lines_from p.own.abs_lines 0 (Some (pos p.own.line_defined)) p.own.line_info) ≡ true
  pub named : none_or_one_per (length p.own.up_names) (length p.own.upvalues) ≡ true
  pub fits : parts_fit p.own ≡ true
  pub sourced : p.own.source ≡ source

pub both_true : {a b : Bool} → a ≡ true → b ≡ true → (a && b) ≡ true
both_true {a} {b} h e = ap₂ (λ a b. a && b) h e

length_lines : (xs : List Coded) → length (lines xs) ≡ length xs
length_lines [] = refl
length_lines (x ∷ xs) = ap suc (length_lines xs)

same_length : {A B C : Type 0} (f : A → B) (g : A → C) (xs : List A) → length (map f xs) ≡ length (map g xs)
same_length f g [] = refl
same_length f g (x ∷ xs) = ap suc (same_length f g xs)

-- what is kept where the source has a name, and what is not else
known_length : {A B : Type 0} (source : Option (List ℕ)) (xs : List A) (ys : List B) → length xs ≡ length ys → none_or_one_per (length (where_known source xs)) (length ys) ≡ true
known_length None xs ys h = refl
known_length (Some name) xs ys h = or_right (length xs == 0) (length xs == length ys) (eq-eqb (length xs) (length ys) h)

pub known_below : {A : Type 0} (source : Option (List ℕ)) (xs : List A) (n : ℕ) → length xs < n → length (where_known source xs) < n
known_below None xs n h = omega (arith, h)
known_below (Some name) xs n h = h

known_all : {A : Type 0} (source : Option (List ℕ)) (test : A → Bool) (xs : List A) → list_all test xs ≡ true → list_all test (where_known source xs) ≡ true
known_all None test xs h = refl
known_all (Some name) test xs h = h

known_lines : (source : Option (List ℕ)) (ls : List ℕ) (line : ℕ) → list_all number_fits ls ≡ true
    → list_all is_line (lines_from (where_known source (far_lines 0 line ls)) 0 (Some (pos line)) (where_known source (changes line ls))) ≡ true
known_lines None ls line h = refl
known_lines (Some name) ls line h = ap (list_all is_line) (lines_back ls line) ∙ lines_are_lines ls h

last_fits : (inner : Block) (line : ℕ) → BlockIsWritten inner → number_fits (last_line_of inner line) ≡ true
last_fits inner line w = by (nat_eq line 0)
  where
    by : (b : Bool) → number_fits (cond b 0 (line_of_end inner)) ≡ true
    by true = refl
    by false = block_line inner w

upvalues_fit : (ups : List UpName) → UpvaluesFit ups → list_all upvalue_fits (map upvalue ups) ≡ true
upvalues_fit [] w = refl
upvalues_fit (u ∷ ups) w = both_true (both_true (lt-ltb u.index (2 ^ 8) w.1.0) refl) (upvalues_fit ups w.1.1)

texts_fit : (ups : List UpName) → UpvaluesFit ups → list_all name_fits (map (λ (u : UpName). Some u.text) ups) ≡ true
texts_fit [] w = refl
texts_fit (u ∷ ups) w = both_true w.0 (texts_fit ups w.1.1)

module _ (source : Option (List ℕ)) (params : List Name) (vararg : Bool) (inner : Block) (ups : List UpName) (line : ℕ) where
  pub function_keeps : FunctionIsNear (function source params vararg inner ups line) → BlockIsNear source (function source params vararg inner ups line) inner false (length params) 0
      → BodyIsWritten (BodyOf params vararg inner ups line) → name_fits source ≡ true → Keeps source (function source params vararg inner ups line)
  function_keeps near h w named =
      let p = function source params vararg inner ups line in
      let code = body_code (BodyOf params vararg inner ups line) in
      let lined : list_all number_fits (lines code) ≡ true = all_lines code (body_lines (BodyOf params vararg inner ups line) w) in
      let constants_fit : list_all constant_fits p.own.constants ≡ true = all_fit_in p.own.constants (block_fits inner [] w.1.1.1 tt) in
      let r = near.params in
      let room = near.room in
      let few = near.upvalues in
      let short = near.code in
      let constants = near.constants in
      let l = length_words code in
      let m = length_lines code in
      let far = length_far (lines code) 0 line in
      let changed = length_changes (lines code) line in
      let size : length (changes line (lines code)) ≡ length (words code) = changed ∙ m ∙ sym l in
      let least = whole_room (words code) (length params) in
      let below : 0 + length (lines code) < 2 ^ 31 = omega (arith, short, l, m) in
      let names = same_length (λ (u : UpName). Some u.text) Rattle.code_of.specs.CodeOf.upvalue ups in
      let locals_fit : list_all local_fits p.own.locals ≡ true = known_all source local_fits (variables_of (BodyOf params vararg inner ups line)) (body_locals (BodyOf params vararg inner ups line) w (omega (arith, short, l))) in
      let names_fit : list_all name_fits p.own.up_names ≡ true = known_all source name_fits (map (λ (u : UpName). Some u.text) ups) (texts_fit ups w.1.1.0) in
      let lists : lists_fit p.own ≡ true =
      both_true (lt-ltb (length (words code)) (2 ^ 31) (omega (arith, short))) (both_true (lt-ltb (length p.own.constants) (2 ^ 31) (omega (arith, constants))) (both_true (le-leb (length p.own.upvalues) 255 few)
      (both_true (lt-ltb (length p.own.line_info) (2 ^ 31) (known_below source (changes line (lines code)) (2 ^ 31) (omega (arith, size, short))))
      (both_true (lt-ltb (length p.own.abs_lines) (2 ^ 31) (known_below source (far_lines 0 line (lines code)) (2 ^ 31) (omega (arith, far, below))))
      (both_true (lt-ltb (length p.own.locals) (2 ^ 31) near.locals) (lt-ltb (length p.own.up_names) (2 ^ 31) (known_below source (map (λ (u : UpName). Some u.text) ups) (2 ^ 31) (omega (arith, names, few))))))))) in
      let entries : entries_fit p.own ≡ true =
      both_true (code_fits source params vararg inner ups line near h) (both_true constants_fit (both_true (upvalues_fit ups w.1.1.0) (both_true (known_all source change_fits (changes line (lines code)) (changes_fit (lines code) line))
      (both_true (known_all source line_fits (far_lines 0 line (lines code)) (far_fit (lines code) 0 line lined below)) (both_true locals_fit names_fit))))) in
      record {
        sized = both_true (lt-ltb 0 (length (words code)) (code_there source params vararg inner ups line near h)) (both_true (le-leb (length params) p.own.stack least) (le-leb (length p.own.upvalues) 255 few));
        places = places_hold source params vararg inner ups line near h;
        lined = known_length source (changes line (lines code)) (words code) size;
        read_back = known_lines source (lines code) line lined;
        named = known_length source (map (λ (u : UpName). Some u.text) ups) p.own.upvalues names;
        fits = both_true named (both_true w.0 (both_true (last_fits inner line w.1.1.1) (both_true (lt-ltb (length params) (2 ^ 8) (omega (arith, r))) (both_true (lt-ltb p.own.stack (2 ^ 8) room) (both_true lists entries)))));
        sourced = refl;
      }

-- functions and those in them

abbrev pub AllKeep : Option (List ℕ) → Prototypes → Type 0
AllKeep source none = Unit {0}
AllKeep source (more own inner rest) = Keeps source (record { own = own; inner = inner }) × AllKeep source inner × AllKeep source rest

source_kept : (a b : Option (List ℕ)) → a ≡ b → (is_none a || is_some b) ≡ true
source_kept a None e = ap (λ o. is_none o || false) e
source_kept a (Some x) e = ap (λ o. is_none o || true) e

all_fit_of : (source : Option (List ℕ)) (parent : Parts) (ps : Prototypes) → parent.source ≡ source → AllKeep source ps → all_fit parent ps ≡ true
all_fit_of source parent none same h = refl
all_fit_of source parent (more own inner rest) same h =
    both_true (source_kept parent.source own.source (same ∙ sym h.0.sourced)) (both_true h.0.fits (both_true (all_fit_of source own inner h.0.sourced h.1) (all_fit_of source parent rest same h.2)))

pub checked : (source : Option (List ℕ)) (p : Prototype) → Keeps source p → AllKeep source p.inner → depth p.inner < greatest_depth → 1 + count p.inner < 2 ^ 31 → CodeIsChecked p
checked source p k all shallow few = record {
  sized = k.sized;
  places = k.places;
  described = both_true k.lined (both_true k.read_back (both_true k.named (both_true k.fits (both_true (all_fit_of source p.own p.inner k.sourced all) (both_true (lt-ltb (depth p.inner) greatest_depth shallow) (lt-ltb (1 + count p.inner) (2 ^ 31) few))))));
}

pub all_checked : (source : Option (List ℕ)) (ps : Prototypes) → AllKeep source ps → depth ps < greatest_depth → count ps < 2 ^ 31 → AllChecked ps
all_checked source none h shallow few = tt
all_checked source (more own inner rest) h shallow few = (
  checked source (record { own = own; inner = inner }) h.0 h.1 (omega (arith, shallow)) (omega (arith, few)),
  all_checked source inner h.1 (omega (arith, shallow)) (omega (arith, few)),
  all_checked source rest h.2 (omega (arith, shallow)) (omega (arith, few)),
)
