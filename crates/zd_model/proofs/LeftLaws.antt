-- What a stop may leave after one more call, and now.
use Rattle.std.proofs.Common.{◌≡◌, ℕ, zero, suc, ◌<◌, ◌≤◌, List, [], ◌∷◌, ◌++◌, length, take, Bool, true, false, refl, ap, sym, ◌∙◌, subst, arith}
use Rattle.std.proofs.lemmas.List.{append-nil, take_all}
use Rattle.zd_base.specs.Geometry.{Shape, zone_sectors}
use Rattle.zd_model.specs.Image.{Image, IsImage, SameZone, Same}
use Rattle.zd_model.specs.Left.{Event, replay, on_zone, IsStop, Call, asked_of, Since, after_call, after_calls, since_flush, under_way, IsLeft, now_by}
use Rattle.zd_model.specs.Left.Call.{Does, Flushes}
use Rattle.zd_model.proofs.EventLaws.{geometry-replay, replay-append, replay_values, replay_zone, one_zone, one_zone_same, SameZone-trans}

pub calls-push : (s : Since) (cs : List Call) (c : Call) → after_calls s (cs ++ c ∷ []) ≡ after_call (after_calls s cs) c
calls-push s [] c = refl
calls-push s (b ∷ cs) c = calls-push (after_call s b) cs c

pub under_way_end : (cs : List Call) → under_way cs (length cs) ≡ []
under_way_end [] = refl
under_way_end (b ∷ cs) = under_way_end cs

pub under_way_before : (cs : List Call) (c : Call) (k : ℕ) → k < length cs → under_way (cs ++ c ∷ []) k ≡ under_way cs k
under_way_before [] c k l = absurd (omega arith)
under_way_before (b ∷ cs) c zero l = refl
under_way_before (b ∷ cs) c (suc k) l = under_way_before cs c k (omega arith)

pub under_way_at : (cs : List Call) (c : Call) → under_way (cs ++ c ∷ []) (length cs) ≡ asked_of c
under_way_at [] c = refl
under_way_at (b ∷ cs) c = under_way_at cs c

call_geometry : (s : Since) (c : Call) → (after_call s c).flushed.geometry ≡ s.flushed.geometry
call_geometry s (Does asked done) = refl
call_geometry s (Flushes true) = geometry-replay s.flushed s.events
call_geometry s (Flushes false) = refl

pub flushed_geometry : (s : Since) (cs : List Call) → (after_calls s cs).flushed.geometry ≡ s.flushed.geometry
flushed_geometry s [] = refl
flushed_geometry s (c ∷ cs) = flushed_geometry (after_call s c) cs ∙ call_geometry s c

pub geometry-now : (first : Image) (calls : List Call) → (now_by first calls).geometry ≡ first.geometry
geometry-now first calls =
    let s = since_flush first calls in
    geometry-replay s.flushed s.events ∙ flushed_geometry (record { flushed = first; events = [] }) calls

pub geometry-left : (first : Image) (calls : List Call) (k : ℕ) (i : Image) → IsLeft first calls k i → i.geometry ≡ first.geometry
geometry-left first calls k i left =
    left.stop.geometry ∙ flushed_geometry (record { flushed = first; events = [] }) (take k calls)

-- what the disk reads as after one more call
pub now-push : (first : Image) (calls : List Call) (asked done : List Event)
    → now_by first (calls ++ Does asked done ∷ []) ≡ replay (now_by first calls) done
now-push first calls asked done =
    let s = since_flush first calls in
    let more = calls-push (record { flushed = first; events = [] }) calls (Does asked done) in
    ap (λ (t : Since). replay t.flushed t.events) more ∙ replay-append s.flushed s.events done

pub now-flush : (first : Image) (calls : List Call) (ok : Bool) → now_by first (calls ++ Flushes ok ∷ []) ≡ now_by first calls
now-flush first calls true =
    ap (λ (t : Since). replay t.flushed t.events) (calls-push (record { flushed = first; events = [] }) calls (Flushes true))
now-flush first calls false =
    ap (λ (t : Since). replay t.flushed t.events) (calls-push (record { flushed = first; events = [] }) calls (Flushes false))

-- by what was done at the moment
module _ (first : Image) (calls : List Call) (k : ℕ) (s : Since) (fs : List Event) (c : Image)
    (since : since_flush first (take k calls) ≡ s) (next : under_way calls k ≡ fs) where
  pub stop_by : k ≤ length calls → IsStop s.flushed (s.events ++ fs) c → IsLeft first calls k c
  stop_by l stop =
      let was = subst (λ (es : List Event). IsStop s.flushed (s.events ++ es) c) (sym next) stop in
      record {
        within = l;
        stop = subst (λ (t : Since). IsStop t.flushed (t.events ++ under_way calls k) c) (sym since) was;
      }

  pub stop_of : IsLeft first calls k c → IsStop s.flushed (s.events ++ fs) c
  stop_of left =
      let was = subst (λ (t : Since). IsStop t.flushed (t.events ++ under_way calls k) c) since left.stop in
      subst (λ (es : List Event). IsStop s.flushed (s.events ++ es) c) next was

-- at the present moment
module _ (first : Image) (calls : List Call) (c : Image) where
  abbrev s : Since
  s = since_flush first calls

  all : since_flush first (take (length calls) calls) ≡ s
  all = ap (since_flush first) (take_all (length calls) calls (omega arith))

  pub left_now : IsStop s.flushed s.events c → IsLeft first calls (length calls) c
  left_now stop =
      stop_by first calls (length calls) s [] c all (under_way_end calls) (omega arith)
      (subst (λ (es : List Event). IsStop s.flushed es c) (sym (append-nil s.events)) stop)

  pub now_left : IsLeft first calls (length calls) c → IsStop s.flushed s.events c
  now_left left =
      subst (λ (es : List Event). IsStop s.flushed es c) (append-nil s.events)
      (stop_of first calls (length calls) s [] c all (under_way_end calls) left)

-- what the disk reads as may be left
pub reads_stop : (at : Image) (es : List Event) → IsImage (replay at es) → IsStop at es (replay at es)
reads_stop at es image = record {
  image = image;
  geometry = geometry-replay at es;
  conventional = λ z i h l. replay_values at es z i;
  sequential = λ z h.
      let own = on_zone z es in
      let made = replay_zone at at z es (one_zone at z) in
      let all = take_all (length own) own (omega arith) in
      let same = one_zone_same (replay at own) (replay at es) z made in
      (length own, omega arith, subst (λ (l : List Event). SameZone (replay at l) (replay at es) z) (sym all) same);
}

pub IsImage-same : (a b : Image) → Same a b → IsImage a → IsImage b
IsImage-same a b s image = record {
  sectors = λ z i h.
      let l : i < a.held z = rw (sym (s.zones z).held) h in
      rw ((s.zones z).sectors i l) (image.sectors z i l);
  conventional = λ z h.
      let below : z < a.geometry.conv = omega (arith, ap (λ (g : Shape). g.conv) s.geometry) in
      (s.zones z).held ∙ image.conventional z below ∙ sym (ap zone_sectors s.geometry);
  sequential = λ z h.
      let above : a.geometry.conv ≤ z = omega (arith, ap (λ (g : Shape). g.conv) s.geometry) in
      let small = image.sequential z above in
      omega (arith, (s.zones z).held, ap zone_sectors s.geometry);
}

-- what is the same as an image that may be left may be left
pub stop_same : (at a b : Image) (es : List Event) → IsStop at es a → Same a b → IsStop at es b
stop_same at a b es stop s =
    let g : a.geometry ≡ at.geometry = stop.geometry in
    record {
      image = IsImage-same a b s stop.image;
      geometry = s.geometry ∙ g;
      conventional = λ z i h l.
          let below : z < a.geometry.conv = omega (arith, ap (λ (k : Shape). k.conv) g) in
          let held = stop.image.conventional z below in
          let same = (s.zones z).sectors i (omega (arith, held, ap zone_sectors g)) in
          rw same (stop.conventional z i h l);
      sequential = λ z h.
          let n = stop.sequential z h in
          (n.0, n.1, SameZone-trans (replay at (take n.0 (on_zone z es))) a b z n.2 (s.zones z));
    }

pub left_same : (first : Image) (calls : List Call) (k : ℕ) (a b : Image) → IsLeft first calls k a → Same a b → IsLeft first calls k b
left_same first calls k a b left s =
    let t = since_flush first (take k calls) in
    record {
      within = left.within;
      stop = stop_same t.flushed a b (t.events ++ under_way calls k) left.stop s;
    }

pub reads_left : (first : Image) (calls : List Call) → IsImage (now_by first calls) → IsLeft first calls (length calls) (now_by first calls)
reads_left first calls image =
    let s = since_flush first calls in
    left_now first calls (now_by first calls) (reads_stop s.flushed s.events image)
