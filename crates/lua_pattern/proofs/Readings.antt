-- The items of a pattern, one after another, and the bytes that an item leaves.
use Rattle.std.proofs.Common.{◌≡◌, ℕ, zero, suc, ◌-◌, ◌≤◌, Bool, true, false, cond, List, [], ◌∷◌, ◌++◌, length, Option, Some, None, Result, Ok, Err, refl, sym, ap, ◌∙◌, subst, append_assoc, append-nil, arith}
use Rattle.lua_pattern.specs.declared.class.Class.{Class}
use Rattle.lua_pattern.specs.declared.class.Class.TheVariants.{Any, Alone, Among}
use Rattle.lua_pattern.specs.declared.class.Part.{Part}
use Rattle.lua_pattern.specs.declared.class.Part.TheVariants.{Byte}
use Rattle.lua_pattern.specs.declared.item.Item.{Item}
use Rattle.lua_pattern.specs.declared.rule.TheConstants.{UNFINISHED_CAPTURE}
use Rattle.lua_pattern.specs.Classes.{part_named}
use Rattle.lua_pattern.specs.Reading.{PartsRead, Read, SetRead, balanced_at, class_at, class_of_set, close_at, dollar_at, escape_at, first_parts, frontier_at, frontier_of_set, item_at, items_from, joined, more_of, open_at, parts_from, part_at, reference_at, scope_of, set_at, set_from, set_of, with_part}
use Rattle.lua_pattern.specs.Scope.{Scope, is_closed}
use Rattle.lua_pattern.specs.Outcomes.{IsRead, IsRefused}
use Rattle.lua_pattern.specs.declared.answer.PatternFault.{PatternFault}
use Rattle.lua_pattern.specs.declared.answer.PatternFault.TheVariants.{Malformed, TooComplex, Memory}

-- a text stands at the end of another
pub data IsEnd (rest : List ℕ) : List ℕ → Type 0 where
  all : IsEnd rest rest
  behind : {byte : ℕ} {text : List ℕ} → IsEnd rest text → IsEnd rest (byte ∷ text)

pub length-end : {rest text : List ℕ} → IsEnd rest text → length rest ≤ length text
length-end all = omega arith
length-end (behind end) = omega (arith, length-end end)

end-end : {first second third : List ℕ} → IsEnd first second → IsEnd second third → IsEnd first third
end-end end all = end
end-end end (behind further) = behind (end-end end further)

-- Sets leave an end of what was there.

PartsEnd : Option PartsRead → List ℕ → Type 0
PartsEnd None text = Unit {0}
PartsEnd (Some read) text = IsEnd read.rest text

parts-behind : (told : Option PartsRead) (byte : ℕ) (text : List ℕ) → PartsEnd told text → PartsEnd told (byte ∷ text)
unfolding PartsEnd
parts-behind None byte text end = tt
parts-behind (Some read) byte text end = behind end

parts-with : (part : Part) (told : Option PartsRead) (text : List ℕ) → PartsEnd told text → PartsEnd (with_part part told) text
unfolding PartsEnd
parts-with part None text end = tt
parts-with part (Some read) text end = end

parts-either : (test : Bool) (first second : Option PartsRead) (text : List ℕ) → PartsEnd first text → PartsEnd second text → PartsEnd (cond test first second) text
parts-either true first second text one other = one
parts-either false first second text one other = other

parts_from-end : (more : ℕ) (text : List ℕ) → PartsEnd (parts_from more text) text
unfolding PartsEnd
parts_from-end zero [] = tt
parts_from-end (suc more) [] = tt
parts_from-end (suc more) (byte ∷ text) = parts-behind (parts_from more text) byte text (parts_from-end more text)
parts_from-end zero (byte ∷ text) =
    parts-either _ (Some (record { parts = []; rest = text })) (with_part (part_at byte text).part (parts_from (part_at byte text).more text)) (byte ∷ text) (behind all)
    (parts-behind (with_part (part_at byte text).part (parts_from (part_at byte text).more text)) byte text (parts-with (part_at byte text).part (parts_from (part_at byte text).more text) text (parts_from-end (part_at byte text).more text)))

first_parts-end : (text : List ℕ) → PartsEnd (first_parts text) text
unfolding PartsEnd
first_parts-end [] = tt
first_parts-end (byte ∷ text) = parts-behind (first_parts (byte ∷ text)) byte text (parts-with (part_at byte text).part (parts_from (part_at byte text).more text) text (parts_from-end (part_at byte text).more text))

SetEnd : Option SetRead → List ℕ → Type 0
SetEnd None text = Unit {0}
SetEnd (Some read) text = IsEnd read.rest text

set_of-end : (inverted : Bool) (told : Option PartsRead) (text : List ℕ) → PartsEnd told text → SetEnd (set_of inverted told) text
unfolding PartsEnd SetEnd
set_of-end inverted None text end = tt
set_of-end inverted (Some read) text end = end

set-either : (test : Bool) (first second : Option SetRead) (text : List ℕ) → SetEnd first text → SetEnd second text → SetEnd (cond test first second) text
set-either true first second text one other = one
set-either false first second text one other = other

set_from-end : (text : List ℕ) → SetEnd (set_from text) text
set_from-end [] = set_of-end false (first_parts []) [] (first_parts-end [])
set_from-end (byte ∷ text) =
    set-either _ (set_of true (first_parts text)) (set_of false (first_parts (byte ∷ text))) (byte ∷ text)
    (set_of-end true (first_parts text) (byte ∷ text) (parts-behind (first_parts text) byte text (first_parts-end text)))
    (set_of-end false (first_parts (byte ∷ text)) (byte ∷ text) (first_parts-end (byte ∷ text)))

-- Items leave an end of what was there.

data ReadEnd : Result Read ℕ → List ℕ → Type 0 where
  broken : {rule : ℕ} {text : List ℕ} → ReadEnd (Err rule) text
  leaves : {read : Read} {text : List ℕ} → IsEnd read.rest text → ReadEnd (Ok read) text

read-either : (test : Bool) {first second : Result Read ℕ} {text : List ℕ} → ReadEnd first text → ReadEnd second text → ReadEnd (cond test first second) text
read-either true one other = one
read-either false one other = other

read-further : {told : Result Read ℕ} {text more : List ℕ} → ReadEnd told text → IsEnd text more → ReadEnd told more
read-further broken further = broken
read-further (leaves end) further = leaves (end-end end further)

leaves-rule : (rule : ℕ) (text : List ℕ) → ReadEnd (Err rule) text
leaves-rule rule text = broken

leaves-all : (item : Item) (scope : Scope) (text : List ℕ) → ReadEnd (Ok (record { item = item; scope = scope; rest = text })) text
leaves-all item scope text = leaves all

leaves-rest : (item : Item) (scope : Scope) (byte : ℕ) (text : List ℕ) → ReadEnd (Ok (record { item = item; scope = scope; rest = text })) (byte ∷ text)
leaves-rest item scope byte text = leaves (behind all)

class_at-end : (class : Class) (scope : Scope) (text : List ℕ) → ReadEnd (class_at class scope text) text
class_at-end class scope [] = leaves all
class_at-end class scope (byte ∷ text) = search (read-either, leaves-all, leaves-rest) depth 9

class_of_set-end : (scope : Scope) (told : Option SetRead) (text : List ℕ) → SetEnd told text → ReadEnd (class_of_set scope told) text
unfolding SetEnd
class_of_set-end scope None text end = broken
class_of_set-end scope (Some read) text end = read-further (class_at-end (Among read.set) scope read.rest) end

set_at-end : (scope : Scope) (text : List ℕ) → ReadEnd (set_at scope text) text
set_at-end scope text = class_of_set-end scope (set_from text) text (set_from-end text)

frontier_of_set-end : (scope : Scope) (told : Option SetRead) (text : List ℕ) → SetEnd told text → ReadEnd (frontier_of_set scope told) text
unfolding SetEnd
frontier_of_set-end scope None text end = broken
frontier_of_set-end scope (Some read) text end = leaves end

frontier_behind : (scope : Scope) (byte : ℕ) (text : List ℕ) → ReadEnd (frontier_of_set scope (set_from text)) (byte ∷ text)
frontier_behind scope byte text = read-further (frontier_of_set-end scope (set_from text) text (set_from-end text)) (behind all)

frontier_at-end : (scope : Scope) (text : List ℕ) → ReadEnd (frontier_at scope text) text
frontier_at-end scope [] = broken
frontier_at-end scope (byte ∷ text) = search (read-either, frontier_behind, leaves-rule) depth 9

balanced_at-end : (scope : Scope) (text : List ℕ) → ReadEnd (balanced_at scope text) text
balanced_at-end scope [] = broken
balanced_at-end scope (opening ∷ []) = broken
balanced_at-end scope (opening ∷ closing ∷ text) = leaves (behind (behind all))

one_behind : {told : Result Read ℕ} {byte : ℕ} {text : List ℕ} → ReadEnd told text → ReadEnd told (byte ∷ text)
one_behind end = read-further end (behind all)

reference_at-end : (digit : ℕ) (scope : Scope) (text : List ℕ) → ReadEnd (reference_at digit scope text) text
reference_at-end digit scope text = search (read-either, leaves-all, leaves-rule) depth 9

escape_at-end : (scope : Scope) (text : List ℕ) → ReadEnd (escape_at scope text) text
escape_at-end scope [] = broken
escape_at-end scope (byte ∷ text) =
    let balanced : ReadEnd (balanced_at scope text) (byte ∷ text) = one_behind (balanced_at-end scope text) in
    let frontier : ReadEnd (frontier_at scope text) (byte ∷ text) = one_behind (frontier_at-end scope text) in
    let reference : ReadEnd (reference_at byte scope text) (byte ∷ text) = one_behind (reference_at-end byte scope text) in
    let class : ReadEnd (class_at (Alone (part_named byte)) scope text) (byte ∷ text) = one_behind (class_at-end (Alone (part_named byte)) scope text) in
    search (read-either, balanced, frontier, reference, class) depth 9

open_at-end : (scope : Scope) (text : List ℕ) → ReadEnd (open_at scope text) text
open_at-end scope [] = search (read-either, leaves-all, leaves-rule) depth 9
open_at-end scope (byte ∷ text) = search (read-either, leaves-all, leaves-rest, leaves-rule) depth 9

close_at-end : (scope : Scope) (text : List ℕ) → ReadEnd (close_at scope text) text
close_at-end scope text = search (read-either, leaves-all, leaves-rule) depth 9

dollar_at-end : (scope : Scope) (text : List ℕ) → ReadEnd (dollar_at scope text) text
dollar_at-end scope [] = leaves all
dollar_at-end scope (byte ∷ text) = class_at-end (Alone (Byte 36)) scope (byte ∷ text)

item_at-end : (scope : Scope) (byte : ℕ) (text : List ℕ) → ReadEnd (item_at scope byte text) text
unfolding item_at
item_at-end scope byte text =
    search (read-either, open_at-end scope text, close_at-end scope text, escape_at-end scope text, set_at-end scope text, dollar_at-end scope text, class_at-end Any scope text, class_at-end (Alone (Byte byte)) scope text) depth 12

rest_left : {read : Read} {text : List ℕ} → ReadEnd (Ok read) text → IsEnd read.rest text
rest_left (leaves end) = end

pub end_of_item : (scope : Scope) (byte : ℕ) (text : List ℕ) (read : Read) → item_at scope byte text ≡ Ok read → IsEnd read.rest text
end_of_item scope byte text read is = rest_left (subst (λ told. ReadEnd told text) is (item_at-end scope byte text))

-- The items so far, and those that are left.

abbrev pub with_items : List Item → Result (List Item) ℕ → Result (List Item) ℕ
with_items before (Err rule) = Err rule
with_items before (Ok items) = Ok (before ++ items)

pub with_items-nil : (told : Result (List Item) ℕ) → told ≡ with_items [] told
with_items-nil (Err rule) = refl
with_items-nil (Ok items) = refl

with_items-joined : (before : List Item) (read : Read) (told : Result (List Item) ℕ) → with_items before (joined (Ok read) told) ≡ with_items (before ++ read.item ∷ []) told
with_items-joined before read (Err rule) = refl
with_items-joined before read (Ok items) = ap (λ items. Ok items) (sym (append_assoc before (read.item ∷ []) items))

items_from-skip : {rest text : List ℕ} (scope : Scope) → IsEnd rest text → items_from (length text - length rest) scope text ≡ items_from 0 scope rest
unfolding items_from
items_from-skip {rest} scope all = let none : length rest - length rest ≡ 0 = omega arith in rw none refl
items_from-skip {rest} scope (behind {byte} {text} end) =
    let shorter = length-end end in
    let one_more : length (byte ∷ text) - length rest ≡ suc (length text - length rest) = omega (arith, shorter) in
    rw one_more (items_from-skip scope end)

-- an item is read
pub one_item : (before after : List Item) (scope : Scope) (left text : List ℕ) (byte : ℕ) (read : Read) → left ≡ byte ∷ text → item_at scope byte text ≡ Ok read → after ≡ before ++ read.item ∷ [] → with_items before (items_from 0 scope left) ≡ with_items after (items_from 0 read.scope read.rest)
unfolding items_from
one_item before after scope left text byte read split is pushed =
    ap (λ left. with_items before (items_from 0 scope left)) split
    ∙ ap (λ told. with_items before (joined told (items_from (more_of told text) (scope_of told scope) text))) is
    ∙ with_items-joined before read (items_from (length text - length read.rest) read.scope text)
    ∙ ap (with_items (before ++ read.item ∷ [])) (items_from-skip read.scope (end_of_item scope byte text read is))
    ∙ ap (λ items. with_items items (items_from 0 read.scope read.rest)) (sym pushed)

-- a rule is broken
pub broken_item : (before : List Item) (scope : Scope) (left text : List ℕ) (byte rule : ℕ) → left ≡ byte ∷ text → item_at scope byte text ≡ Err rule → with_items before (items_from 0 scope left) ≡ Err rule
unfolding items_from
broken_item before scope left text byte rule split is =
    ap (λ left. with_items before (items_from 0 scope left)) split
    ∙ ap (λ told. with_items before (joined told (items_from (more_of told text) (scope_of told scope) text))) is

-- the pattern is at its end
pub no_more_items : (before : List Item) (scope : Scope) (left : List ℕ) → left ≡ [] → is_closed scope ≡ true → with_items before (items_from 0 scope left) ≡ Ok before
unfolding items_from
no_more_items before scope left over closed =
    ap (λ left. with_items before (items_from 0 scope left)) over
    ∙ ap (λ closed. with_items before (cond closed (Ok []) (Err UNFINISHED_CAPTURE))) closed
    ∙ ap (λ items. Ok items) (append-nil before)

pub unfinished_capture : (before : List Item) (scope : Scope) (left : List ℕ) → left ≡ [] → is_closed scope ≡ false → with_items before (items_from 0 scope left) ≡ Err UNFINISHED_CAPTURE
unfolding items_from
unfinished_capture before scope left over closed =
    ap (λ left. with_items before (items_from 0 scope left)) over
    ∙ ap (λ closed. with_items before (cond closed (Ok []) (Err UNFINISHED_CAPTURE))) closed

-- an item is refused, and so is the pattern
pub refused_item : (fault : PatternFault) (before : List Item) (scope after : Scope) (left text rest : List ℕ) (byte : ℕ) {items : Result (List Item) ℕ} → items ≡ with_items before (items_from 0 scope left) → left ≡ byte ∷ text → IsRead (Err fault) (item_at scope byte text) after rest → IsRefused fault items
refused_item (Malformed rule) before scope after left text rest byte so_far split is = so_far ∙ broken_item before scope left text byte rule split is
refused_item TooComplex before scope after left text rest byte so_far split is = is
refused_item Memory before scope after left text rest byte so_far split is = tt
