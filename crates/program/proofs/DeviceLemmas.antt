-- What devices tell before a call and after it.
use Rattle.std.proofs.Common.{◌≡◌, ℕ, List, [], ◌++◌, length, take, Option, Some, None, IfSome, refl, sym, ap, subst, ◌∙◌, arith, rules, append-nil}
use Rattle.std.specs.Option.{option_map}
use Rattle.std.proofs.Math.Seq.{take-length}
use Rattle.io_edge.specs.Content.{FileMap, GrowsByFront, MayEndTelling, KeepsOtherFiles, with_file}
use Rattle.program.specs.Devices.{Device, GrewIn, Lacks, Holds, KeepsOthers}
use Rattle.lua_feed.specs.Feeding.{OnlyGrows}

abbrev pub files_of : (faults faults' : ℕ) (held held' : Option FileMap) → Device FileMap
files_of faults faults' held held' = record { faults = faults; faults' = faults'; content = held; content' = held' }

abbrev pub stream_of : (faults faults' : ℕ) (content content' : Option (List ℕ)) → Device (List ℕ)
stream_of faults faults' content content' = record { faults = faults; faults' = faults'; content = content; content' = content' }

pub grows_by_none : (bytes : List ℕ) (written : Option (List ℕ)) → GrowsByFront bytes written written
grows_by_none bytes (Some text) = (text, 0, refl, sym (append-nil text))
grows_by_none bytes None = tt

pub grows_by_all : (bytes : List ℕ) (before now : Option (List ℕ)) → now ≡ option_map (λ text. text ++ bytes) before → GrowsByFront bytes before now
grows_by_all bytes (Some text) (Some after) is = let whole : after ≡ text ++ bytes = cc in (text, length bytes, refl, whole ∙ ap (λ l. text ++ l) (sym (take-length bytes)))
grows_by_all bytes (Some text) None is = tt
grows_by_all bytes None (Some after) is = absurd (cc)
grows_by_all bytes None None is = tt

pub only_same : (written : Option (List ℕ)) → OnlyGrows written written
only_same (Some text) = (text, [], refl, sym (append-nil text))
only_same None = tt

pub only_front : (bytes : List ℕ) (before now : Option (List ℕ)) → GrowsByFront bytes before now → OnlyGrows before now
only_front bytes before (Some after) (text, count, is, whole) = (text, take count bytes, is, whole)
only_front bytes before None h = tt

pub keeps_telling : {T : Type 0} (content : Option T) → MayEndTelling content content
keeps_telling (Some files) = refl
keeps_telling None = tt

-- the bytes that the files tell are those that were read
pub same_content : (name content content' : List ℕ) (held : Option FileMap) → IfSome held (λ files. files name ≡ Some content) → Holds held name content' → content' ≡ content
same_content name content content' (Some files) found has = let both : Some content' ≡ Some content = sym has ∙ found in cc
same_content name content content' None found has = absurd has

pub not_lacking : (name content : List ℕ) (held : Option FileMap) → IfSome held (λ files. files name ≡ Some content) → Lacks held name → ⊥
not_lacking name content (Some files) found lacks = let bad = sym lacks ∙ found in cc
not_lacking name content None found lacks = lacks

pub no_content : (name content : List ℕ) (held : Option FileMap) → IfSome held (λ files. files name ≡ None) → Holds held name content → ⊥
no_content name content (Some files) none has = let bad = sym none ∙ has in cc
no_content name content None none has = has

-- nothing was counted and nothing written

pub stays : {T : Type 0} (faults : ℕ) (content content' : Option T) → GrewIn (record { faults = faults; faults' = faults; content = content; content' = content' }) → ⊥
stays faults content content' grew = omega arith

pub told_lacking : {A : Type 0} (name : List ℕ) (held : Option FileMap) → IfSome held (λ files. files name ≡ None → A) → Lacks held name → A
told_lacking name (Some files) lacking lacks = lacking lacks
told_lacking name None lacking lacks = absurd lacks

-- a device of which the telling may have ended keeps its other files
pub keeps_others : (name : List ℕ) (before now : Option FileMap) → MayEndTelling before now → KeepsOtherFiles name before now
keeps_others name before (Some after) h = (after, h, λ other differ. refl)
keeps_others name before None h = tt

pub replaces_others : (name bytes : List ℕ) (before now : Option FileMap) → now ≡ option_map (λ held. with_file held name bytes) before → KeepsOtherFiles name before now
replaces_others name bytes (Some files) (Some after) is = (files, refl, λ other differ. let same : after ≡ with_file files name bytes = cc in search rules)
replaces_others name bytes (Some files) None is = tt
replaces_others name bytes None (Some after) is = absurd (cc)
replaces_others name bytes None None is = tt

-- where the files may have ended to tell, whatever file is named
pub kept_others : (save : Option (List ℕ)) (files : Device FileMap) → MayEndTelling files.content files.content' → KeepsOthers save files
kept_others (Some name) files h = keeps_others name files.content files.content' h
kept_others None files h = h

pub same_telling : {T : Type 0} (before now : Option T) → now ≡ before → MayEndTelling before now
same_telling before now e = subst (MayEndTelling before) (sym e) (keeps_telling before)
