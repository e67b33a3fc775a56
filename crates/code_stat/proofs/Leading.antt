-- Where jumps lead as labels are passed and met and loops are left.
use Rattle.std.proofs.Common.{arith, ℕ, zero, suc, ◌+◌, ◌≡◌, ◌≤◌, ◌<◌, Bool, true, false, List, [], ◌∷◌, ◌++◌, refl, sym, ap, ap₂, ◌∙◌, subst, length, take, drop, cond, Option, Some, None}
use Rattle.std.specs.Prelude.{slice_index_or, slice_set, bytes_eq}
use Rattle.std.proofs.lemmas.List.{drop_all, take_all}
use Rattle.code_of.specs.Jumps.{Landing, Visible, Reach, label_in}
use Rattle.code_of.specs.Statements.{in_loop}
use Rattle.code_emitter.specs.declared.emitter.Step.{Step}
use Rattle.code_stat.specs.declared.jumps.Destination.{Destination}
use Rattle.code_stat.specs.declared.jumps.Jump.{Jump}
use Rattle.code_stat.specs.declared.jumps.Passed.{Passed}
use Rattle.code_stat.proofs.Going.{front}
use Rattle.code_stat.specs.Drafts.{landing, landing_if, newest_first, first_of, among, beyond, is_break, is_to, leads_to, arrives, within, or_nowhere, put_jump, fill}

-- labels

chosen : (b : Bool) (x y z : Option Landing) → (x ≡ first_of y z) → (l : Landing) → cond b (Some l) x ≡ first_of (cond b (Some l) y) z
chosen true x y z e l = refl
chosen false x y z e l = e

pub label_in_both : (name : List ℕ) (xs ys : List Visible) → label_in name (xs ++ ys) ≡ first_of (label_in name xs) (label_in name ys)
label_in_both name [] ys = refl
label_in_both name (x ∷ xs) ys = chosen (bytes_eq x.name name) _ _ _ (label_in_both name xs ys) x.landing

abbrev jump : (place line : ℕ) → Option (List ℕ) → (closes : Bool) → Option Destination → Bool → Jump
jump place line label closes landing settled = record { place = place; line = line; label = label; closes = closes; landing = landing; settled = settled }

abbrev labelled : List ℕ → Landing → Visible
labelled name to = record { name = name; landing = to }

-- a jump that is settled leads where it led

pub stays : (j : Jump) (x y z : Option Landing) → j.settled ≡ true → cond j.settled x y ≡ cond j.settled x z
stays j x y z e = ap (λ b. cond b x y) e ∙ sym (ap (λ b. cond b x z) e)

-- a statement has ended, with labels passed in front of it

pub settled_now : (label : Option (List ℕ)) (found : Option Destination) (settled : Bool) (reach : Reach) (d : Destination) → found ≡ Some d → landing_if found ≡ cond settled (landing_if found) (first_of (landing_if found) (beyond label reach))
settled_now label found settled reach d e = by settled
  where
    same : landing_if found ≡ first_of (landing_if found) (beyond label reach)
    same = ap landing_if e ∙ sym (ap (λ f. first_of (landing_if f) (beyond label reach)) e)

    by : (b : Bool) → landing_if found ≡ cond b (landing_if found) (first_of (landing_if found) (beyond label reach))
    by true = refl
    by false = same

pub settled_found :
    (name : List ℕ) (found : Option Destination) (ahead passed : List Visible) (reach : Reach) → landing_if found ≡ label_in name passed
    → first_of (label_in name ahead) (first_of (landing_if found) (label_in name reach.labels)) ≡ label_in name (ahead ++ (passed ++ reach.labels))
settled_found name found ahead passed reach e =
    ap (λ f. first_of (label_in name ahead) (first_of f (label_in name reach.labels))) e
    ∙ ap (first_of (label_in name ahead)) (sym (label_in_both name passed reach.labels))
    ∙ sym (label_in_both name ahead (passed ++ reach.labels))

-- lists of jumps

pub fill_both : (to : Jump → Option Landing) (xs ys : List Jump) (code : List Step) → fill to (xs ++ ys) code ≡ fill to xs (fill to ys code)
fill_both to [] ys code = refl
fill_both to (x ∷ xs) ys code = ap (put_jump x.closes (or_nowhere (to x)) x.place x.line) (fill_both to xs ys code)

pub fill_alike : (f g : Jump → Option Landing) (xs : List Jump) (code : List Step) → ((j : Jump) → f j ≡ g j) → fill f xs code ≡ fill g xs code
fill_alike f g [] code h = refl
fill_alike f g (x ∷ xs) code h = ap₂ (λ o c. put_jump x.closes (or_nowhere o) x.place x.line c) (h x) (fill_alike f g xs code h)

-- the labels that were passed, one by one

abbrev pub found_from : List ℕ → List Passed → Option Landing → Option Landing
found_from name [] found = found
found_from name (x ∷ xs) found = found_from name xs (cond (bytes_eq x.name name) (Some (landing x.landing)) found)

found_all : (name : List ℕ) (xs : List Passed) (behind : List Visible) → label_in name (newest_first xs behind) ≡ found_from name xs (label_in name behind)
found_all name [] behind = refl
found_all name (x ∷ xs) behind = found_all name xs _

pub none_found : (name : List ℕ) (xs items : List Passed) → items ≡ xs → found_from name items None ≡ label_in name (newest_first xs [])
none_found name xs items e = ap (λ l. found_from name l None) e ∙ sym (found_all name xs [])

pub next_found :
    (name : List ℕ) (items : List Passed) (i : ℕ) (x : Passed) (found found' : Option Landing) (all : Option Landing) → i < length items → x ≡ slice_index_or items i x
    → found' ≡ cond (bytes_eq x.name name) (Some (landing x.landing)) found → found_from name (drop i items) found ≡ all → found_from name (drop (i + 1) items) found' ≡ all
next_found name items i x found found' all inside is e known =
    ap (found_from name (drop (i + 1) items)) e ∙ sym (ap (λ l. found_from name l found) (front items i x inside is)) ∙ known

pub all_found : (name : List ℕ) (items : List Passed) (i : ℕ) (found all : Option Landing) → length items ≤ i → found_from name (drop i items) found ≡ all → found ≡ all
all_found name items i found all over known = sym (ap (λ l. found_from name l found) (drop_all i items over)) ∙ known

pub newest_more : (xs : List Passed) (x : Passed) (behind : List Visible) → newest_first (xs ++ x ∷ []) behind ≡ record { name = x.name; landing = landing x.landing } ∷ newest_first xs behind
newest_more [] x behind = refl
newest_more (y ∷ xs) x behind = newest_more xs x _

-- the jumps from one on, of which those up to a place are led anew

put_same : (f g : Option Landing) (j k : Jump) (code : List Step) → f ≡ g → j.place ≡ k.place → j.line ≡ k.line → j.closes ≡ k.closes
    → put_jump j.closes (or_nowhere f) j.place j.line code ≡ put_jump k.closes (or_nowhere g) k.place k.line code
put_same f g j k code e p l c = ap₂ (λ b o. put_jump b (or_nowhere o) j.place j.line code) c e ∙ ap₂ (λ m n. put_jump k.closes (or_nowhere g) m n code) p l

one_more_suc :
    (f g : Jump → Option Landing) (xs : List Jump) (from i : ℕ) (j k : Jump) (code : List Step)
    → from ≤ i → i < length xs → j ≡ slice_index_or xs i j → k.place ≡ j.place → k.line ≡ j.line → k.closes ≡ j.closes → f k ≡ g j
    → fill f (drop from (take (suc i) (slice_set xs i k))) (fill g (drop (suc i) (slice_set xs i k)) code) ≡ fill f (drop from (take i xs)) (fill g (drop i xs) code)
one_more_suc f g [] from i j k code le lt is p l b e = absurd (omega (arith, lt))
one_more_suc f g (x ∷ xs) zero zero j k code le lt is p l b e =
    let x_is : j ≡ x = is in
    put_same (f k) (g j) k j (fill g xs code) e p l b ∙ ap (λ z. put_jump z.closes (or_nowhere (g z)) z.place z.line (fill g xs code)) x_is
one_more_suc f g (x ∷ xs) zero (suc i) j k code le lt is p l b e = ap (put_jump x.closes (or_nowhere (f x)) x.place x.line) (one_more_suc f g xs zero i j k code (omega arith) (omega (arith, lt)) is p l b e)
one_more_suc f g (x ∷ xs) (suc from) zero j k code le lt is p l b e = absurd (omega (arith, le))
one_more_suc f g (x ∷ xs) (suc from) (suc i) j k code le lt is p l b e = one_more_suc f g xs from i j k code (omega (arith, le)) (omega (arith, lt)) is p l b e

suc_is : (i : ℕ) → suc i ≡ i + 1
suc_is i = omega arith

pub one_more :
    (f g : Jump → Option Landing) (xs : List Jump) (from i : ℕ) (j k : Jump) (code : List Step)
    → from ≤ i → i < length xs → j ≡ slice_index_or xs i j → k.place ≡ j.place → k.line ≡ j.line → k.closes ≡ j.closes → f k ≡ g j
    → fill f (drop from (take (i + 1) (slice_set xs i k))) (fill g (drop (i + 1) (slice_set xs i k)) code) ≡ fill f (drop from (take i xs)) (fill g (drop i xs) code)
one_more f g xs from i j k code le lt is p l b e =
    subst (λ n. fill f (drop from (take n (slice_set xs i k))) (fill g (drop n (slice_set xs i k)) code) ≡ fill f (drop from (take i xs)) (fill g (drop i xs) code)) (suc_is i) (one_more_suc f g xs from i j k code le lt is p l b e)

pub front_kept : (xs : List Jump) (from i : ℕ) (k : Jump) → from ≤ i → take from (slice_set xs i k) ≡ take from xs
front_kept [] from i k le = refl
front_kept (x ∷ xs) zero i k le = refl
front_kept (x ∷ xs) (suc from) zero k le = absurd (omega (arith, le))
front_kept (x ∷ xs) (suc from) (suc i) k le = ap (λ l. x ∷ l) (front_kept xs from i k (omega (arith, le)))

pub all_led : (f g : Jump → Option Landing) (xs : List Jump) (from i : ℕ) (code : List Step) → length xs ≤ i → fill f (drop from xs) code ≡ fill f (drop from (take i xs)) (fill g (drop i xs) code)
all_led f g xs from i code h = ap₂ (λ l r. fill f (drop from l) (fill g r code)) (sym (take_all i xs h)) (sym (drop_all i xs h))

none_between : (from : ℕ) (xs : List Jump) → drop from (take from xs) ≡ []
none_between zero xs = refl
none_between (suc from) [] = refl
none_between (suc from) (x ∷ xs) = none_between from xs

pub none_led : (f g : Jump → Option Landing) (xs : List Jump) (from : ℕ) (code : List Step) → fill f (drop from (take from xs)) (fill g (drop from xs) code) ≡ fill g (drop from xs) code
none_led f g xs from code = ap (λ l. fill f l (fill g (drop from xs) code)) (none_between from xs)

-- a jump is settled, led to a label and led out of a loop

pub settle_settled : (j : Jump) (ahead passed : List Visible) (reach : Reach) → j.settled ≡ true → leads_to ahead reach j ≡ arrives (within ahead passed reach) j
settle_settled j ahead passed reach e = stays j _ _ _ e

pub settle_known : (j : Jump) (ahead passed : List Visible) (reach : Reach) (d : Destination) → j.landing ≡ Some d → landing_if j.landing ≡ arrives (within ahead passed reach) j
settle_known j ahead passed reach d e = settled_now j.label j.landing j.settled (within ahead passed reach) d e

settle_other :
    (place line : ℕ) (label : Option (List ℕ)) (closes : Bool) (before found : Option Destination) (settled : Bool) (ahead passed : List Visible) (reach : Reach)
    → settled ≡ false → before ≡ None → landing_if found ≡ among label passed
    → leads_to ahead reach (jump place line label closes found settled) ≡ arrives (within ahead passed reach) (jump place line label closes before settled)
settle_other place line None closes before found settled ahead passed reach e b f =
    ap (λ s. leads_to ahead reach (jump place line None closes found s)) e ∙ ap (λ o. first_of o reach.exit) f
    ∙ sym (ap₂ (λ s o. arrives (within ahead passed reach) (jump place line None closes o s)) e b)
settle_other place line (Some name) closes before found settled ahead passed reach e b f =
    ap (λ s. leads_to ahead reach (jump place line (Some name) closes found s)) e
    ∙ settled_found name found ahead passed reach f
    ∙ sym (ap₂ (λ s o. arrives (within ahead passed reach) (jump place line (Some name) closes o s)) e b)

pub settle_new :
    (j : Jump) (found : Option Destination) (ahead passed : List Visible) (reach : Reach) → j.settled ≡ false → j.landing ≡ None → landing_if found ≡ among j.label passed
    → leads_to ahead reach (jump j.place j.line j.label j.closes found j.settled) ≡ arrives (within ahead passed reach) j
settle_new j found ahead passed reach e b f = settle_other j.place j.line j.label j.closes j.landing found j.settled ahead passed reach e b f

meet_other :
    (place line : ℕ) (label : Option (List ℕ)) (closes : Bool) (landed : Option Destination) (settled : Bool) (name : List ℕ) (to : Landing) (ahead : List Visible) (reach : Reach) → is_to label name ≡ false
    → leads_to ahead reach (jump place line label closes landed settled) ≡ leads_to (record { name = name; landing = to } ∷ ahead) reach (jump place line label closes landed settled)
meet_other place line None closes landed settled name to ahead reach e = refl
meet_other place line (Some l) closes landed settled name to ahead reach e =
    sym (ap (λ b. cond settled (landing_if landed) (first_of (cond b (Some to) (label_in l ahead)) (first_of (landing_if landed) (beyond (Some l) reach)))) e)

pub meet_not : (j : Jump) (name : List ℕ) (to : Landing) (ahead : List Visible) (reach : Reach) → is_to j.label name ≡ false → leads_to ahead reach j ≡ leads_to (record { name = name; landing = to } ∷ ahead) reach j
meet_not j name to ahead reach e = meet_other j.place j.line j.label j.closes j.landing j.settled name to ahead reach e

meet_this :
    (place line : ℕ) (label : Option (List ℕ)) (closes : Bool) (landed : Option Destination) (settled : Bool) (name : List ℕ) (to : Landing) (ahead : List Visible) (reach : Reach) → settled ≡ false → is_to label name ≡ true
    → Some to ≡ leads_to (record { name = name; landing = to } ∷ ahead) reach (jump place line label closes landed settled)
meet_this place line None closes landed settled name to ahead reach s e = absurd (cc)
meet_this place line (Some l) closes landed settled name to ahead reach s e =
    sym (ap₂ (λ k b. cond k (landing_if landed) (first_of (cond b (Some to) (label_in l ahead)) (first_of (landing_if landed) (beyond (Some l) reach)))) s e)

pub meet_here : (j : Jump) (name : List ℕ) (to : Landing) (ahead : List Visible) (reach : Reach) → j.settled ≡ false → is_to j.label name ≡ true → Some to ≡ leads_to (record { name = name; landing = to } ∷ ahead) reach j
meet_here j name to ahead reach s e = meet_this j.place j.line j.label j.closes j.landing j.settled name to ahead reach s e

leave_this :
    (place line : ℕ) (label : Option (List ℕ)) (closes : Bool) (landed : Option Destination) (settled : Bool) (to : Landing) (reach : Reach) → settled ≡ false → is_break label landed ≡ true
    → Some to ≡ arrives (in_loop reach to.place to.level) (jump place line label closes landed settled)
leave_this place line None closes None settled to reach s e = sym (ap (λ k. arrives (in_loop reach to.place to.level) (jump place line None closes None k)) s)
leave_this place line None closes (Some d) settled to reach s e = absurd (cc)
leave_this place line (Some name) closes None settled to reach s e = absurd (cc)
leave_this place line (Some name) closes (Some d) settled to reach s e = absurd (cc)

pub leave_here : (j : Jump) (to : Landing) (reach : Reach) → j.settled ≡ false → is_break j.label j.landing ≡ true → Some to ≡ arrives (in_loop reach to.place to.level) j
leave_here j to reach s e = leave_this j.place j.line j.label j.closes j.landing j.settled to reach s e

leave_others :
    (place line : ℕ) (label : Option (List ℕ)) (closes : Bool) (landed : Option Destination) (settled : Bool) (m n : ℕ) (reach : Reach) → is_break label landed ≡ false
    → arrives reach (jump place line label closes landed settled) ≡ arrives (in_loop reach m n) (jump place line label closes landed settled)
leave_others place line None closes None settled m n reach e = absurd (cc)
leave_others place line None closes (Some d) settled m n reach e = refl
leave_others place line (Some name) closes None settled m n reach e = refl
leave_others place line (Some name) closes (Some d) settled m n reach e = refl

pub leave_not : (j : Jump) (place level : ℕ) (reach : Reach) → is_break j.label j.landing ≡ false → arrives reach j ≡ arrives (in_loop reach place level) j
leave_not j place level reach e = leave_others j.place j.line j.label j.closes j.landing j.settled place level reach e

pub meet_settled : (j : Jump) (name : List ℕ) (to : Landing) (ahead : List Visible) (reach : Reach) → j.settled ≡ true → leads_to ahead reach j ≡ leads_to (record { name = name; landing = to } ∷ ahead) reach j
meet_settled j name to ahead reach e = stays j _ _ _ e

pub leave_settled : (j : Jump) (place level : ℕ) (reach : Reach) → j.settled ≡ true → arrives reach j ≡ arrives (in_loop reach place level) j
leave_settled j place level reach e = stays j _ _ _ e

pub kept : (xs ys : List Passed) (x : Passed) (name : List ℕ) → ys ≡ xs ++ x ∷ [] → x.name ≡ name → newest_first ys [] ≡ record { name = name; landing = landing x.landing } ∷ newest_first xs []
kept xs ys x name e n =
    ap (λ l. newest_first l []) e ∙ newest_more xs x [] ∙ ap (λ m. labelled m (landing x.landing) ∷ newest_first xs []) n
