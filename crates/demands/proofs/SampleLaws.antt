-- THE SAMPLES MARKED P HOLD, all of them, under one statement. Assumes nothing.
use Rattle.demands.specs.Samples.{AllRight, none_left, and_right, samples}
use Rattle.demands.proofs.ChainSamples.{lifts_a, refused_a, regions_a, turned_a_lem, read_ok, long_a_lem}
use Rattle.demands.proofs.PslSamples.{psl_a}

pub samples_right : AllRight samples
samples_right =
    and_right turned_a_lem
    (and_right lifts_a.0 (and_right lifts_a.1 (and_right lifts_a.2 (and_right lifts_a.3
    (and_right refused_a.0 (and_right refused_a.1 (and_right refused_a.2 (and_right refused_a.3 (and_right refused_a.4
    (and_right regions_a.0 (and_right regions_a.1
    (and_right read_ok (and_right long_a_lem (and_right psl_a.0 (and_right psl_a.1 none_left)))))))))))))))
