-- The layer and the number of each refusal. Assumes nothing.
use Rattle.std.specs.Prelude.{ℕ}
use Rattle.net_laws.specs.declared.fault.Fault.{Fault}
use Rattle.net_laws.specs.declared.fault.Fault.TheVariants as fault
use Rattle.net_laws.specs.declared.fault.Layer.{Layer}
use Rattle.net_laws.specs.declared.fault.Layer.TheVariants as layer
use Rattle.net_laws.specs.declared.fault.SpaceFault.{SpaceFault}
use Rattle.net_laws.specs.declared.fault.SpaceFault.TheVariants as space

abbrev pub space_number : SpaceFault → ℕ
space_number space.TooWide = 1
space_number space.NotAdmitted = 2

abbrev pub number_of : Fault → ℕ
number_of (fault.Space e) = space_number e
number_of fault.TooManyPins = 3
number_of fault.TooClose = 4
number_of fault.BadAllowance = 5
number_of fault.TooFewPins = 6
number_of fault.TooManyPoints = 7
number_of fault.NoNode = 8
number_of fault.Joined = 9
number_of fault.NoLength = 10
number_of fault.NoAllowance = 11
number_of fault.NoSeed = 12
number_of fault.NoTree = 13
number_of fault.NoMove = 14
number_of fault.TooManyRows = 15
number_of fault.OutOfRange = 16

abbrev pub layer_of : Fault → Layer
layer_of (fault.Space e) = layer.Space
layer_of fault.TooManyPins = layer.Net
layer_of fault.TooClose = layer.Net
layer_of fault.BadAllowance = layer.Net
layer_of fault.TooFewPins = layer.Net
layer_of fault.TooManyPoints = layer.Net
layer_of fault.NoNode = layer.Net
layer_of fault.Joined = layer.Net
layer_of fault.NoLength = layer.Net
layer_of fault.NoAllowance = layer.Net
layer_of fault.NoSeed = layer.Net
layer_of fault.NoTree = layer.Net
layer_of fault.NoMove = layer.Net
layer_of fault.TooManyRows = layer.Net
layer_of fault.OutOfRange = layer.Net
