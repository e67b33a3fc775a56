-- How many functions and instructions checked code can have.
use Rattle.std.proofs.Common.{◌≡◌, ◌*◌, ◌<◌, ◌≤◌, ◌^◌, Bool, true, false, ◌&&◌, refl, arith, length, Some}
use Rattle.std.specs.Prelude.{nat_lt, pos}
use Rattle.std.specs.List.{list_all}
use Rattle.std.proofs.lemmas.Bool.Decides.{Decides-ltb}
use Rattle.code_core.specs.Prototype.{Parts, Prototype, Prototypes, none, more, count, inner_instructions, function_count, instruction_count}
use Rattle.code_core.specs.Writable.{all_fit, parts_fit, lists_fit, list_fits, number_fits, byte_fits, keeps_source, name_fits, is_writable, greatest_depth, depth}
use Rattle.code_core.specs.Check.{IsChecked, is_described, none_or_one_per, lines_from, is_line}

pub both : (a b : Bool) → (a && b) ≡ true → (a ≡ true) × (b ≡ true)
both true true h = (refl, refl)
both true false h = absurd (cc)
both false b h = absurd (cc)

-- the rest of a list of tests of which the first is `a`
pub rest_of : (a : Bool) {b : Bool} → (a && b) ≡ true → b ≡ true
rest_of a {b} h = (both a b h).1

pub first_of_two : (a b : Bool) → (a && b) ≡ true → a ≡ true
first_of_two a b h = (both a b h).0

pub code_below : (p : Parts) → parts_fit p ≡ true → length p.code < 2 ^ 31
code_below p h =
    let numbers = rest_of (number_fits p.last_line) (rest_of (number_fits p.line_defined) (rest_of (name_fits p.source) h)) in
    let bytes = rest_of (byte_fits p.stack) (rest_of (byte_fits p.params) numbers) in
    let lists = first_of_two (lists_fit p) _ bytes in
    (Decides-ltb (length p.code) (2 ^ 31)).0 (first_of_two (list_fits p.code) _ lists)

pub inner_instructions_below : (parent : Parts) (ps : Prototypes) → all_fit parent ps ≡ true → inner_instructions ps ≤ count ps * 2 ^ 31
inner_instructions_below parent none h = omega arith
inner_instructions_below parent (more own inner rest) h =
    let fits = rest_of (keeps_source parent own) h in
    let inner_fits = rest_of (parts_fit own) fits in
    let here = code_below own (first_of_two (parts_fit own) _ fits) in
    let within = inner_instructions_below own inner (first_of_two (all_fit own inner) _ inner_fits) in
    let behind = inner_instructions_below parent rest (rest_of (all_fit own inner) inner_fits) in
    omega arith

pub function_count_below : (p : Prototype) → is_writable p ≡ true → function_count p < 2 ^ 31
function_count_below p h = (Decides-ltb (function_count p) (2 ^ 31)).0 (rest_of (nat_lt (depth p.inner) greatest_depth) (rest_of (all_fit p.own p.inner) (rest_of (parts_fit p.own) h)))

pub instruction_count_below : (p : Prototype) → is_writable p ≡ true → instruction_count p < 2 ^ 64
instruction_count_below p h =
    let functions = function_count_below p h in
    let here = code_below p.own (first_of_two (parts_fit p.own) _ h) in
    let within = inner_instructions_below p.own p.inner (first_of_two (all_fit p.own p.inner) _ (rest_of (parts_fit p.own) h)) in
    omega arith

pub described_is_writable : (p : Prototype) → is_described p ≡ true → is_writable p ≡ true
described_is_writable p h =
    rest_of (none_or_one_per (length p.own.up_names) (length p.own.upvalues))
    (rest_of (list_all is_line (lines_from p.own.abs_lines 0 (Some (pos p.own.line_defined)) p.own.line_info))
    (rest_of (none_or_one_per (length p.own.line_info) (length p.own.code)) h))

pub checked_functions : (p : Prototype) → IsChecked p → function_count p < 2 ^ 64
checked_functions p h =
    let below = function_count_below p (described_is_writable p h.code.described) in
    omega arith

pub checked_instructions : (p : Prototype) → IsChecked p → instruction_count p < 2 ^ 64
checked_instructions p h = instruction_count_below p (described_is_writable p h.code.described)
