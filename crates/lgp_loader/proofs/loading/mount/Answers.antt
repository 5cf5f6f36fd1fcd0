use Rattle.std.proofs.Common.{rules}
use Rattle.lgp_loader.proofs.Ready.{no_mount_fault}
use Rattle.lgp_loader.proofs.loading.mount.Goals as goal

pub unreachable-requires : goal.unreachable-requires
unreachable-requires g c =
    search (rules, no_mount_fault)
