use Rattle.std.proofs.Common.{◌≡◌, ℕ, ◌≤◌, Some, inl, ap, sym, ◌∙◌, subst, arith}
use Rattle.std.proofs.lemmas.Result.{on_err_weaker, on_ok_weaker}
use Rattle.zd_base.specs.Geometry.{Shape}
use Rattle.zd_model.specs.Image.{Image, SameZone, Same}
use Rattle.zd_disk.specs.Steps.{ResetStep}
use Rattle.zd_disk.specs.View.{Stays, View}
use Rattle.zd_disk.proofs.ToldLaws.{Some-same}
use Rattle.zd_memdisk.specs.Disks.{disk_image}
use Rattle.zd_memdisk.proofs.memory.MemDiskZonedDisk.TheImpl.Goals as goal

same_zone : (old new : Image) → new ≡ old → (z : ℕ) → SameZone old new z
same_zone old new e z = record {
  held = ap (λ (i : Image). i.held z) e;
  sectors = λ i h. ap (λ (image : Image). image.sector z i) e;
}

same : (old new : Image) → new ≡ old → Same old new
same old new e = record { geometry = ap (λ (i : Image). i.geometry) e; zones = same_zone old new e }

not_reset : (z : ℕ) (old new : Image) → new ≡ old → ResetStep z old new
not_reset z old new e = record {
  geometry = ap (λ (i : Image). i.geometry) e;
  others = λ y ne. same_zone old new e y;
  zone = inl (same_zone old new e z);
}

stays : {u v : View} → v.told ≡ u.told → u.faults ≤ v.faults → v.read_calls ≡ u.read_calls → Stays u v
stays told later same = record { told = λ g e. told ∙ e; later = later; read_calls = omega (arith, same) }

pub write-tells : goal.write-tells
write-tells x c = record {
  ok = on_ok_weaker c.result (λ w. record { reads = w }) c.ensures.did.ok;
  err = on_err_weaker c.result (λ w. record { reads = w }) c.ensures.did.err;
  call = record {
    stays = stays (ap (λ (h : Shape). Some h) c.ensures.counted.told) c.ensures.cause.faults.1.later c.ensures.counted.read_calls;
    calls = c.ensures.counted.calls;
    read_calls = c.ensures.counted.read_calls;
    left = c.ensures.left;
  };
  cause = c.ensures.cause.faults.1.failed;
}

pub reset-tells : goal.reset-tells
reset-tells x c = record {
  ok = on_ok_weaker c.result (λ w. record { reads = w }) c.ensures.did.ok;
  err = on_err_weaker c.result (λ e. record { reads = not_reset c.args.zone (disk_image c.args.self.now) (disk_image c.new.self.now) e })
      c.ensures.did.err;
  call = record {
    stays = stays (ap (λ (h : Shape). Some h) c.ensures.counted.told) c.ensures.cause.faults.1.later c.ensures.counted.read_calls;
    calls = c.ensures.counted.calls;
    read_calls = c.ensures.counted.read_calls;
    left = c.ensures.left;
  };
  cause = c.ensures.cause.faults.1.failed;
}

pub flush-tells : goal.flush-tells
flush-tells x c = record {
  same = record { reads = same (disk_image c.args.self.now) (disk_image c.new.self.now) c.ensures.zones };
  call = record {
    stays = stays (ap (λ (h : Shape). Some h) c.ensures.counted.told) c.ensures.cause.faults.1.later c.ensures.counted.read_calls;
    calls = c.ensures.counted.calls;
    read_calls = c.ensures.counted.read_calls;
    left = c.ensures.left;
  };
  durable = on_ok_weaker c.result (λ h. record {
    left = λ low i e other can.
        subst (λ (j : Image). Same j other) (sym c.ensures.zones ∙ Some-same (disk_image c.new.self.now) i e) (h low other can);
  })
      c.ensures.durable;
  cause = c.ensures.cause.faults.1.failed;
}
