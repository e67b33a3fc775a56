-- What is written for jumps, and for the end of a `repeat`.
use Rattle.std.proofs.Common.{arith, ℕ, ◌+◌, ◌-◌, ◌≡◌, Bool, true, false, List, [], ◌∷◌, ◌++◌, refl, sym, ap, ap₂, ◌∙◌, append_assoc, length, cond, Option, Some, None}
use Rattle.std.specs.Prelude.{slice_set, nat_le}
use Rattle.std.proofs.lemmas.List.{length_push, length-append}
use Rattle.std.proofs.Math.Seq.{set-append_seam}
use Rattle.code_core.specs.declared.opcode.Opcode.TheVariants.{Close}
use Rattle.code_of.specs.Coded.{Coded, with_abc, jump_over, jump_back}
use Rattle.code_of.specs.Jumps.{Landing, leads}
use Rattle.code_emitter.specs.declared.emitter.Step.{Step}
use Rattle.code_emitter.specs.Listing.{Listing, followed, listed, step, steps}
use Rattle.code_emitter.specs.Patches.{jump_to}
use Rattle.code_emitter.specs.Leading.{led_on, Opened}
use Rattle.code_emitter.proofs.Joining.{none_made, both_listed, listed_after}
use Rattle.code_emitter.proofs.Leading.{opened_led, opened_long}
use Rattle.code_stat.specs.declared.jumps.Jump.{Jump}
use Rattle.code_stat.specs.declared.writer.Writer.{Writer}
use Rattle.code_stat.specs.Drafts.{Wrote, beyond, or_nowhere, drafted}
use Rattle.code_stat.specs.Forms.{until_code}
use Rattle.code_stat.proofs.Drafting.{written_sized}

put_twice :
    (front more : List Step) (a b x y : Step) (place : ℕ) → place ≡ length front
    → slice_set (slice_set (front ++ a ∷ b ∷ more) place x) (place + 1) y ≡ front ++ x ∷ y ∷ more
put_twice front more a b x y place e =
    ap (λ n. slice_set (slice_set (front ++ a ∷ b ∷ more) n x) (n + 1) y) e
    ∙ ap (λ l. slice_set l (length front + 1) y) (set-append_seam front a (b ∷ more) x ∙ sym (append_assoc front (x ∷ []) (b ∷ more)))
    ∙ ap (λ n. slice_set ((front ++ x ∷ []) ++ b ∷ more) n y) (sym (length_push front x))
    ∙ set-append_seam (front ++ x ∷ []) b more y
    ∙ append_assoc front (x ∷ []) (y ∷ more)

two_more : (n : ℕ) → n + 1 + 1 ≡ n + 2
two_more n = omega arith

jump_led : (x : Landing) (pc line : ℕ) → jump_to (pc + 1) x.place line ≡ cond (nat_le (pc + 2) x.place) (jump_over (x.place - (pc + 2)) line) (jump_back (pc + 2 - x.place) line)
jump_led x pc line = ap (λ n. cond (nat_le n x.place) (jump_over (x.place - n) line) (jump_back (n - x.place) line)) (two_more pc)

led : (o : Option Landing) (pc line : ℕ) → with_abc Close (or_nowhere o).level 0 0 line ∷ jump_to (pc + 1) (or_nowhere o).place line ∷ [] ≡ leads true o pc line
led None pc line = ap (λ j. with_abc Close 0 0 0 line ∷ j ∷ []) (jump_led (record { place = 0; level = 0 }) pc line)
led (Some x) pc line = ap (λ j. with_abc Close x.level 0 0 line ∷ j ∷ []) (jump_led x pc line)

led_alone : (o : Option Landing) (pc line : ℕ) → jump_to pc (or_nowhere o).place line ∷ [] ≡ leads false o pc line
led_alone None pc line = refl
led_alone (Some x) pc line = refl

put_once : (front more : List Step) (a x : Step) (place : ℕ) → place ≡ length front → slice_set (front ++ a ∷ more) place x ≡ front ++ x ∷ more
put_once front more a x place e = ap (λ n. slice_set (front ++ a ∷ more) n x) e ∙ set-append_seam front a more x

abbrev fresh : (place line : ℕ) → Option (List ℕ) → (closes : Bool) → Jump
fresh place line label closes = record { place = place; line = line; label = label; closes = closes; landing = None; settled = false }

pub jump_wrote :
    (closes : Bool) (a b : Writer) (label : Option (List ℕ)) (place line : ℕ) → place ≡ length a.emitter.steps
    → b.emitter ≡ listed a.emitter (drafted closes line) → b.jumps.items ≡ a.jumps.items ++ fresh place line label closes ∷ [] → b.back ≡ a.back
    → Wrote a b 0 (λ reach. leads closes (beyond label reach) (length a.emitter.steps) line)
jump_wrote true a b label place line place_is e jumps back = record {
  draft = with_abc Close 0 0 0 line ∷ jump_over 0 line ∷ [];
  jumps = fresh place line label true ∷ [];
  emitter_is = e ∙ sym (none_made a.emitter (with_abc Close 0 0 0 line ∷ jump_over 0 line ∷ []));
  jumps_are = jumps;
  back_is = back;
  fills = λ reach front more h.
      let o = beyond label reach in
      put_twice front more (step (with_abc Close 0 0 0 line)) (step (jump_over 0 line)) (step (with_abc Close (or_nowhere o).level 0 0 line)) (step (jump_to (place + 1) (or_nowhere o).place line)) place (place_is ∙ sym h)
      ∙ ap (λ n. front ++ (steps (with_abc Close (or_nowhere o).level 0 0 line ∷ jump_to (n + 1) (or_nowhere o).place line ∷ []) ++ more)) place_is
      ∙ ap (λ code. front ++ (steps code ++ more)) (led o (length a.emitter.steps) line);
}
jump_wrote false a b label place line place_is e jumps back = record {
  draft = jump_over 0 line ∷ [];
  jumps = fresh place line label false ∷ [];
  emitter_is = e ∙ sym (none_made a.emitter (jump_over 0 line ∷ []));
  jumps_are = jumps;
  back_is = back;
  fills = λ reach front more h.
      let o = beyond label reach in
      put_once front more (step (jump_over 0 line)) (step (jump_to place (or_nowhere o).place line)) place (place_is ∙ sym h)
      ∙ ap (λ n. front ++ (steps (jump_to n (or_nowhere o).place line ∷ []) ++ more)) place_is
      ∙ ap (λ code. front ++ (steps code ++ more)) (led_alone o (length a.emitter.steps) line);
}

until_form : (test close : List Coded) (places line : ℕ) → (test ++ (close ++ jump_back places line ∷ [])) ++ close ≡ test ++ (close ++ (jump_back places line ∷ close))
until_form test close places line = append_assoc test (close ++ jump_back places line ∷ []) close ∙ ap (λ l. test ++ l) (append_assoc close (jump_back places line ∷ []) close)

pub until_wrote :
    (s0 s1 s2 s3 s4 s5 : Listing) (test : ℕ → List Coded) (close : List Coded) (m start end line : ℕ) (away : List ℕ)
    → Opened s0 s1 test m away → s2 ≡ listed s1 close → s3 ≡ listed s2 (jump_back (length s2.steps + 1 - start) line ∷ []) → end ≡ length s3.steps → s4 ≡ led_on s3 away end → s5 ≡ listed s4 close
    → s5 ≡ followed s0 (until_code test close (length s0.steps + length (test 0) + length close + 1 - start) line) m
until_wrote s0 s1 s2 s3 s4 s5 test close m start end line away o e2 e3 end_is led e5 =
    let d = length close + 1 in
    let back = length s2.steps + 1 - start in
    let rest = close ++ jump_back back line ∷ [] in
    let long1 = opened_long s0 s1 test m away o in
    let long2 = written_sized s1 s2 close 0 (e2 ∙ sym (none_made s1 close)) in
    let places : back ≡ length s0.steps + length (test 0) + length close + 1 - start = omega (arith, long1, long2) in
    let three : s3 ≡ followed s1 rest 0 = e3 ∙ ap (λ s. listed s (jump_back back line ∷ [])) e2 ∙ both_listed s1 close (jump_back back line ∷ []) ∙ sym (none_made s1 rest) in
    let long3 = written_sized s1 s3 rest 0 three in
    let size : length rest ≡ d = length-append close (jump_back back line ∷ []) in
    let there : end ≡ length s1.steps + d = omega (arith, end_is, long3, size) in
    let four : s4 ≡ followed s0 (test d ++ rest) (m + 0) = opened_led s0 s1 s3 s4 test m away rest 0 end d o three there led in
    e5 ∙ ap (λ s. listed s close) four ∙ listed_after s0 (test d ++ rest) (m + 0) close
    ∙ ap₂ (followed s0) (until_form (test d) close back line ∙ ap (λ n. until_code test close n line) places) (none_more m)
  where
    none_more : (n : ℕ) → n + 0 ≡ n
    none_more n = omega arith
