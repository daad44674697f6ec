mod PlansOfFeatures
mod Putting
mod PuttingFiles
mod Sizes
mod Stopping
