-- Code whose jumps are not all led yet, behind code and around code.
use Rattle.std.proofs.Common.{arith, ℕ, ◌+◌, ◌≡◌, Bool, true, false, List, [], ◌∷◌, ◌++◌, refl, sym, ap, ap₂, ◌∙◌, append_assoc, length, take, drop, Option}
use Rattle.std.proofs.lemmas.List.{map-append, length-append, length-map, append-nil, length-set, take-append-drop}
use Rattle.std.proofs.Math.Seq.{drop-append_seam, take-append_seam}
use Rattle.code_core.specs.declared.proto.Const.{Const}
use Rattle.code_of.specs.declared.leaving.Leaving.{Leaving}
use Rattle.code_of.specs.Coded.{Coded}
use Rattle.code_of.specs.Jumps.{Landing, Reach}
use Rattle.code_emitter.specs.declared.emitter.Step.{Step}
use Rattle.code_emitter.specs.Listing.{Listing, followed, step, steps}
use Rattle.code_emitter.specs.Leading.{Opened}
use Rattle.code_emitter.proofs.Joining.{after}
use Rattle.code_emitter.proofs.Leading.{opened_long}
use Rattle.code_stat.specs.declared.jumps.Jump.{Jump}
use Rattle.code_stat.specs.declared.writer.Writer.{Writer}
use Rattle.code_stat.specs.Drafts.{arrives, put_jump, fill, Wrote}
use Rattle.code_stat.proofs.Leading.{fill_both}

-- filling keeps the length

put_length : (closes : Bool) (x : Landing) (pc line : ℕ) (xs : List Step) → length (put_jump closes x pc line xs) ≡ length xs
put_length true x pc line xs = length-set _ _ _ ∙ length-set _ _ _
put_length false x pc line xs = length-set _ _ _

pub fill_length : (to : Jump → Option Landing) (js : List Jump) (xs : List Step) → length (fill to js xs) ≡ length xs
fill_length to [] xs = refl
fill_length to (j ∷ js) xs = put_length j.closes _ j.place j.line (fill to js xs) ∙ fill_length to js xs

steps_sized : (front more : List Step) (code : List Coded) → length (front ++ (steps code ++ more)) ≡ length front + (length code + length more)
steps_sized front more code = length-append front (steps code ++ more) ∙ ap (λ n. length front + n) (length-append (steps code) more ∙ ap (λ n. n + length more) (length-map code step))

pub draft_sized : (a b : Writer) (m : ℕ) (f : Reach → List Coded) (w : Wrote a b m f) (reach : Reach) → length (f reach) ≡ length w.draft
draft_sized a b m f w reach =
    let filled = ap length (w.fills reach a.emitter.steps [] refl) in
    let kept = fill_length (arrives reach) w.jumps (a.emitter.steps ++ (steps w.draft ++ [])) in
    let before = steps_sized a.emitter.steps [] w.draft in
    let behind = steps_sized a.emitter.steps [] (f reach) in
    omega (arith, filled, kept, before, behind)

pub recoded : (a b : Writer) (m : ℕ) (f g : Reach → List Coded) → Wrote a b m f → ((reach : Reach) → f reach ≡ g reach) → Wrote a b m g
recoded a b m f g w e = record {
  draft = w.draft;
  jumps = w.jumps;
  emitter_is = w.emitter_is;
  jumps_are = w.jumps_are;
  back_is = w.back_is;
  fills = λ reach front more h. w.fills reach front more h ∙ ap (λ c. front ++ (steps c ++ more)) (e reach);
}

-- code without jumps that are still to be led

pub plainly : (a b : Writer) (m : ℕ) (code : List Coded) → b.emitter ≡ followed a.emitter code m → b.jumps.items ≡ a.jumps.items → b.back ≡ a.back → Wrote a b m (λ reach. code)
plainly a b m code e j k = record {
  draft = code;
  jumps = [];
  emitter_is = e;
  jumps_are = j ∙ sym (append-nil a.jumps.items);
  back_is = k;
  fills = λ reach front more h. refl;
}

-- places in front of code and behind it

pub seam : (front more : List Step) (a b : List Coded) → front ++ (steps (a ++ b) ++ more) ≡ (front ++ steps a) ++ (steps b ++ more)
seam front more a b =
    ap (λ l. front ++ (l ++ more)) (map-append step a b)
    ∙ ap (λ l. front ++ l) (append_assoc (steps a) (steps b) more)
    ∙ sym (append_assoc front (steps a) (steps b ++ more))

pub front_sized : (front : List Step) (code : List Coded) (n : ℕ) → length front ≡ n → length (front ++ steps code) ≡ n + length code
front_sized front code n h = length-append front (steps code) ∙ ap₂ (λ x y. x + y) h (length-map code step)

pub written_sized : (s r : Listing) (code : List Coded) (m : ℕ) → r ≡ followed s code m → length r.steps ≡ length s.steps + length code
written_sized s r code m e = ap (λ x. length x.steps) e ∙ front_sized s.steps code (length s.steps) refl

-- code behind code

pub then_wrote : (a b c : Writer) (m n : ℕ) (f g : Reach → List Coded) → Wrote a b m f → Wrote b c n g → Wrote a c (m + n) (λ reach. f reach ++ g reach)
then_wrote a b c m n f g v w = record {
  draft = v.draft ++ w.draft;
  jumps = v.jumps ++ w.jumps;
  emitter_is = w.emitter_is ∙ ap (λ s. followed s w.draft n) v.emitter_is ∙ after a.emitter v.draft m w.draft n;
  jumps_are = w.jumps_are ∙ ap (λ l. l ++ w.jumps) v.jumps_are ∙ append_assoc a.jumps.items v.jumps w.jumps;
  back_is = w.back_is ∙ v.back_is;
  fills = λ reach front more h.
      fill_both (arrives reach) v.jumps w.jumps (front ++ (steps (v.draft ++ w.draft) ++ more))
      ∙ ap (λ l. fill (arrives reach) v.jumps (fill (arrives reach) w.jumps l)) (seam front more v.draft w.draft)
      ∙ ap (fill (arrives reach) v.jumps) (w.fills reach (front ++ steps v.draft) more (front_sized front v.draft (length a.emitter.steps) h ∙ sym (written_sized a.emitter b.emitter v.draft m v.emitter_is)))
      ∙ ap (fill (arrives reach) v.jumps) (append_assoc front (steps v.draft) (steps (g reach) ++ more))
      ∙ v.fills reach front (steps (g reach) ++ more) h
      ∙ sym (append_assoc front (steps (f reach)) (steps (g reach) ++ more))
      ∙ sym (seam front more (f reach) (g reach));
}

-- what stands behind depends on what is there

abbrev pub Form : Type 0
Form = List Const → (back : Leaving) → (made place : ℕ) → Reach → List Coded

abbrev pub formed : Form → Writer → Reach → List Coded
formed g a reach = g a.emitter.constants a.back a.emitter.made (length a.emitter.steps) reach

pub form_moved :
    (g : Form) (a b : Writer) (m : ℕ) (f : Reach → List Coded) (size : ℕ) (w : Wrote a b m f) → length w.draft ≡ size
    → (reach : Reach) → formed g b reach ≡ g a.emitter.constants a.back (a.emitter.made + m) (length a.emitter.steps + size) reach
form_moved g a b m f size w h reach =
    ap (λ s. g s.constants b.back s.made (length b.emitter.steps) reach) w.emitter_is
    ∙ ap (λ k. g a.emitter.constants k (a.emitter.made + m) (length b.emitter.steps) reach) w.back_is
    ∙ ap (λ n. g a.emitter.constants a.back (a.emitter.made + m) n reach) (written_sized a.emitter b.emitter w.draft m w.emitter_is ∙ ap (λ n. length a.emitter.steps + n) h)

pub then_formed :
    (a b c : Writer) (m n size : ℕ) (f : Reach → List Coded) (g : Form) (w : Wrote a b m f) → length w.draft ≡ size → Wrote b c n (formed g b)
    → Wrote a c (m + n) (λ reach. f reach ++ g a.emitter.constants a.back (a.emitter.made + m) (length a.emitter.steps + size) reach)
then_formed a b c m n size f g w h v =
    recoded a c (m + n) (λ reach. f reach ++ formed g b reach) _ (then_wrote a b c m n f (formed g b) w v) (λ reach. ap (λ l. f reach ++ l) (form_moved g a b m f size w h reach))

-- what hangs on a writer's place is the same at an equal one

pub stands_at :
    {X : Type 0} (g : List Const → (back : Leaving) → (made place : ℕ) → X) (a : Writer) (k : List Const) (back : Leaving) (j pc : ℕ) → a.emitter.constants ≡ k → a.back ≡ back → a.emitter.made ≡ j → length a.emitter.steps ≡ pc
    → g a.emitter.constants a.back a.emitter.made (length a.emitter.steps) ≡ g k back j pc
stands_at g a k back j pc k_is back_is j_is pc_is = ap₂ (λ c n. g c n a.emitter.made (length a.emitter.steps)) k_is back_is ∙ ap₂ (g k back) j_is pc_is

-- what is written behind other code of the same length, with the same constants and functions
abbrev pub behind_other :
    (a p q : Writer) (code : ℕ → List Coded) (m n : ℕ) (places : List ℕ) (g : Form) (w : Wrote p q n (formed g p)) → Opened a.emitter p.emitter code m places
    → Wrote (record p { emitter = followed a.emitter (code 0) m }) (record q { emitter = followed (followed a.emitter (code 0) m) w.draft n }) n (formed g (record p { emitter = followed a.emitter (code 0) m }))
behind_other a p q code m n places g w o = record {
  draft = w.draft;
  jumps = w.jumps;
  emitter_is = refl;
  jumps_are = w.jumps_are;
  back_is = w.back_is;
  fills = λ reach front more h.
      let long = opened_long a.emitter p.emitter code m places o ∙ sym (front_sized a.emitter.steps (code 0) (length a.emitter.steps) refl) in
      w.fills reach front more (h ∙ sym long) ∙ ap (λ c. front ++ (steps c ++ more)) (stands_at (λ k back j pc. g k back j pc reach) p a.emitter.constants p.back (a.emitter.made + m) (length (a.emitter.steps ++ steps (code 0))) o.constants_is refl o.made_is long);
}

-- code around code

pub enclosed :
    (a p q b : Writer) (m n : ℕ) (f : Reach → List Coded) (w : Wrote p q n f) (x y : List Coded) (jumps : List Jump) (change : Reach → Reach)
    → length p.emitter.steps ≡ length a.emitter.steps + length x
    → b.emitter ≡ followed a.emitter (x ++ (w.draft ++ y)) m
    → b.jumps.items ≡ a.jumps.items ++ jumps → b.back ≡ a.back
    → ((reach : Reach) (xs : List Step) → fill (arrives reach) jumps xs ≡ fill (arrives (change reach)) w.jumps xs)
    → Wrote a b m (λ reach. x ++ (f (change reach) ++ y))
enclosed a p q b m n f w x y jumps change place e j k leads = record {
  draft = x ++ (w.draft ++ y);
  jumps = jumps;
  emitter_is = e;
  jumps_are = j;
  back_is = k;
  fills = λ reach front more h.
      leads reach (front ++ (steps (x ++ (w.draft ++ y)) ++ more))
      ∙ ap (fill (arrives (change reach)) w.jumps) (around front more x w.draft y)
      ∙ w.fills (change reach) (front ++ steps x) (steps y ++ more) (front_sized front x (length a.emitter.steps) h ∙ sym place)
      ∙ sym (around front more x (f (change reach)) y);
}
  where
    around : (front more : List Step) (a b c : List Coded) → front ++ (steps (a ++ (b ++ c)) ++ more) ≡ (front ++ steps a) ++ (steps b ++ (steps c ++ more))
    around front more a b c =
        seam front more a (b ++ c)
        ∙ ap (λ l. (front ++ steps a) ++ (l ++ more)) (map-append step b c)
        ∙ ap (λ l. (front ++ steps a) ++ l) (append_assoc (steps b) (steps c) more)

-- jumps that were led anew from one on

pub led_anew : (front old new js : List Jump) → old ≡ front ++ js → take (length front) new ≡ take (length front) old → new ≡ front ++ drop (length front) new
led_anew front old new js e h =
    sym (take-append-drop (length front) new)
    ∙ ap (λ l. l ++ drop (length front) new) (h ∙ ap (take (length front)) e ∙ take-append_seam front js)

pub behind_seam : (front old js : List Jump) → old ≡ front ++ js → drop (length front) old ≡ js
behind_seam front old js e = ap (drop (length front)) e ∙ drop-append_seam front js
