use Rattle.tiff_palette.proofs.Codecs.{codec, codec_alone}
use Rattle.tiff_palette.proofs.laws.a_written_file_is_its_image_alone.Goals as goal

pub returns-clause-same : goal.returns-clause-same
returns-clause-same c = codec

pub returns-clause-alone : goal.returns-clause-alone
returns-clause-alone c = codec_alone
