mod Feeding
mod Reporting
