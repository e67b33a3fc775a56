-- What faults tell of an image.
use Rattle.std.proofs.Common.{◌≡◌, ◌⊎◌, inl, inr, ℕ, List, [], Option, Some, IfSome, refl, ap, sym, subst, ◌∙◌}
use Rattle.code_core.specs.Prototype.{Prototype}
use Rattle.io_edge.specs.Content.{FileMap}
use Rattle.prelude_code.specs.Prelude.{IsPreludeCode}
use Rattle.machine_core.specs.World.{World}
use Rattle.graph_core.specs.Permanents.{key_read}
use Rattle.image_core.specs.Image.{PermKey}
use Rattle.image_bytes.specs.Format.{Fault as Refusal, of_kind, read, refused as refused_for}
use Rattle.image_reading.specs.Faults as image
use Rattle.image_reading.specs.declared.fault.ReadFault.{ReadFault}
use Rattle.image_reading.specs.declared.fault.ReadFault.TheVariants as reading
use Rattle.image_reading.specs.declared.fault.Refusal.{Refusal as Why}
use Rattle.session_images.specs.Saved.{session_of}
use Rattle.lua_feed.specs.declared.fault.FeedFault.{FeedFault}
use Rattle.lua_feed.specs.declared.fault.FeedFault.TheVariants as feeding
use Rattle.lua_saving.specs.Saving.{IsRefused, by_bytes, by_roots, IsSession, HasYielded}
use Rattle.program.specs.declared.fault.Fault.{Fault}
use Rattle.program.specs.declared.fault.Fault.TheVariants as fault
use Rattle.program.specs.Devices.{Holds}
use Rattle.program.specs.Faults.{fault_of_feeding}
use Rattle.program.specs.Outcomes.{told_refusal, IsToldOf, IsToldOfReading, IsNoSessionFor}
use Rattle.program.specs.Report as report
use Rattle.program.specs.Report.{IsRefusedFor, IsNoImage, ImageFits}
use Rattle.program.specs.Sessions.{functions_of}
use Rattle.program.proofs.DeviceLemmas.{same_content}

-- faults that tell nothing of an image

pub feeding_fits_image : (content : List ℕ) (reason : FeedFault) → ImageFits content (fault_of_feeding reason)
feeding_fits_image content feeding.Input = tt
feeding_fits_image content feeding.Output = tt
feeding_fits_image content feeding.Limit = tt
feeding_fits_image content feeding.Memory = tt

-- the bytes are no session's image

-- the kind and the key of a refusal are the refusal
pub told_by : (why : Refusal) (kind : ℕ) (key : Option PermKey) → kind ≡ why.kind → key ≡ why.key → Some (record { kind = kind; key = key }) ≡ Some why
told_by why kind key e f = rw (e, f) refl

refused_as : (prelude : Prototype) (content : List ℕ) (why : Why) → IsRefused (functions_of prelude) content (reading.Refused why) → IsRefusedFor prelude content (image.fault why)
refused_as prelude content why (by_bytes _ e) = report.by_bytes (image.fault why) e
refused_as prelude content _ (by_roots none) = report.by_roots none

none_held : (prelude : Prototype) (content : List ℕ) (why : Refusal) → IsRefusedFor prelude content why → (session : World) → IsSession (functions_of prelude) content session → HasYielded session → ⊥
none_held prelude content why (report.by_bytes _ e) session holds waits = let bad : refused_for why ≡ read holds.image holds.met [] = sym e ∙ holds.accepted in cc
none_held prelude content _ (report.by_roots h) session holds waits =
    let both : read h.image h.met [] ≡ read holds.image holds.met [] = sym h.accepted ∙ holds.accepted in
    let images : h.image ≡ holds.image = cc in
    h.none session (ap (session_of (functions_of prelude)) images ∙ holds.session) waits

no_session_for : (prelude : Prototype) (content : List ℕ) (why : Why) (reason : Fault) → IsRefused (functions_of prelude) content (reading.Refused why) → IsToldOf (image.fault why) reason → IsNoSessionFor prelude content reason ⊎ (reason ≡ fault.Memory)
no_session_for prelude content why reason refused (inl told) =
    let so = refused_as prelude content why refused in
    inl (record { why = image.fault why; told = told; refused = so; holds_none = none_held prelude content (image.fault why) so })
no_session_for prelude content why reason refused (inr memory) = inr memory

pub not_read_for : (prelude : Prototype) (content : List ℕ) (given : ReadFault) (reason : Fault) → IsRefused (functions_of prelude) content given → IsToldOfReading given reason → IsNoSessionFor prelude content reason ⊎ (reason ≡ fault.Memory)
not_read_for prelude content (reading.Refused why) reason refused told = no_session_for prelude content why reason refused told
not_read_for prelude content reading.Memory reason refused memory = inr memory

fits_told : (content : List ℕ) (reason : Fault) (why : Refusal) → told_refusal reason ≡ Some why → IsNoImage content why → ImageFits content reason
fits_told content (fault.NoImage kind) why told own = let same : of_kind kind ≡ why = cc in subst (IsNoImage content) (sym same) own
fits_told content (fault.NoPermanent kind key) why told own = let same : record { kind = kind; key = Some (key_read key) } ≡ why = cc in subst (IsNoImage content) (sym same) own
fits_told content _ why told own = absurd (cc)

pub image_tells : (name content content' : List ℕ) (held : Option FileMap) (prelude : Prototype) (reason : Fault) → IfSome held (λ files. files name ≡ Some content) → Holds held name content' → IsPreludeCode prelude
    → IsNoSessionFor prelude content reason ⊎ (reason ≡ fault.Memory) → ImageFits content' reason
image_tells name content content' held prelude reason found has is_prelude (inl own) =
    subst (λ c. ImageFits c reason) (sym (same_content name content content' held found has)) (fits_told content reason own.why own.told (record { prelude = prelude; is_prelude = is_prelude; refused = own.refused }))
image_tells name content content' held prelude reason found has is_prelude (inr memory) = rw memory tt
