use Rattle.std.proofs.Common.{None, sym}
use Rattle.datasets.proofs.Infos.{too_short, no_filename, not_strings, no_protection, accepted, all_read}
use Rattle.datasets.proofs.read.read_info.Goals as goal

pub returns-in_err-strings : goal.returns-in_err-strings
returns-in_err-strings c = rw c.from_residual.ensures (too_short c.args.bytes.now c.in_err-strings.ensures)

pub returns-in_err-filename : goal.returns-in_err-filename
returns-in_err-filename c =
    rw c.from_residual-in_err-filename.ensures
    (no_filename c.args.bytes.now _ c.in_ok-strings.strings.now c.in_ok-strings.ensures c.in_err-filename.ensures.value)

pub returns-then-not-are_strings : goal.returns-then-not-are_strings
returns-then-not-are_strings c =
    not_strings c.args.bytes.now _ c.in_ok-strings.strings.now c.in_ok-strings.ensures c.in_ok-filename.filename.units.now c.in_ok-filename.filename.rest.now c.in_ok-filename.ensures.value (sym c.if-not-are_strings.ensures)

pub returns-in_err-protection : goal.returns-in_err-protection
returns-in_err-protection c =
    rw c.from_residual-in_err-protection.ensures
    (no_protection c.args.bytes.now _ c.in_ok-strings.strings.now c.in_ok-strings.ensures c.in_ok-filename.filename.units.now c.in_ok-filename.filename.rest.now c.in_ok-filename.ensures.value (sym c.if-not-are_strings.ensures)
    c.in_err-protection.ensures)

pub returns-in_err-name : goal.returns-in_err-name
returns-in_err-name c =
    rw c.from_residual-in_err-name.ensures
    (sym (accepted c.args.bytes.now _ c.in_ok-strings.strings.now c.in_ok-strings.ensures c.in_ok-filename.filename.units.now c.in_ok-filename.filename.rest.now c.in_ok-filename.ensures.value (sym c.if-not-are_strings.ensures)
    c.in_ok-protection.protection None c.in_ok-protection.ensures c.in_err-name.ensures))

pub returns : goal.returns
returns c =
    all_read c.args.bytes.now _ c.in_ok-strings.strings.now c.in_ok-strings.ensures c.in_ok-filename.filename.units.now c.in_ok-filename.filename.rest.now c.in_ok-filename.ensures.value (sym c.if-not-are_strings.ensures)
    c.in_ok-protection.protection c.in_ok-name.name c.in_ok-protection.ensures c.in_ok-name.ensures c.number_at.ensures c.number_at-2.ensures c.number_at-3.ensures c.number_at-4.ensures
